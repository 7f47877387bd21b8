use Rattle.std.proofs.Common.{subst, Result, Err}
use Rattle.std.proofs.lemmas.Result.{err_from_is_err_and}
use Rattle.toml.specs.View.{table_view}
use Rattle.dr_base.specs.declared.estate_fault.EstateFault.{EstateFault}
use Rattle.dr_inventory.specs.declared.estate.Estate.{Estate}
use Rattle.dr_inventory.specs.Part.{IsUnlessMemory}
use Rattle.dr_inventory.specs.Documents.{document}
use Rattle.dr_inventory.specs.Numbers.{estate_of}
use Rattle.dr_inventory.specs.Estates.{form_faults, row_faults}
use Rattle.dr_inventory.proofs.EntryLaws.{entries_result}
use Rattle.dr_inventory.proofs.FaultLaws.{stops_before}
use Rattle.dr_inventory.proofs.RowLaws.{only_rows}
use Rattle.dr_inventory.proofs.SoundLaws.{sound_result}
use Rattle.dr_inventory.proofs.TableFaults.{never_told}
use Rattle.dr_inventory.proofs.estates.read_table.Goals as goal

pub returns-clause-first : goal.returns-clause-first
returns-clause-first c = subst (λ (r : Result Estate EstateFault). IsUnlessMemory c.finish.result r) (only_rows (table_view c.args.table.now) c.in_ok-doc.doc c.in_ok-doc.ensures) c.finish.ensures

pub returns-clause-sound : goal.returns-clause-sound
returns-clause-sound c = sound_result (table_view c.args.table.now) c.finish.result (subst (λ (r : Result Estate EstateFault). IsUnlessMemory c.finish.result r) (only_rows (table_view c.args.table.now) c.in_ok-doc.doc c.in_ok-doc.ensures) c.finish.ensures)

pub returns-clause-least_entries : goal.returns-clause-least_entries
returns-clause-least_entries c = entries_result (table_view c.args.table.now) c.finish.result (subst (λ (r : Result Estate EstateFault). IsUnlessMemory c.finish.result r) (only_rows (table_view c.args.table.now) c.in_ok-doc.doc c.in_ok-doc.ensures) c.finish.ensures)

pub returns-clause-not_told : goal.returns-clause-not_told
returns-clause-not_told c = never_told (table_view c.args.table.now) c.finish.result (subst (λ (r : Result Estate EstateFault). IsUnlessMemory c.finish.result r) (only_rows (table_view c.args.table.now) c.in_ok-doc.doc c.in_ok-doc.ensures) c.finish.ensures)

pub returns-in_err-doc-clause-not_told : goal.returns-in_err-doc-clause-not_told
returns-in_err-doc-clause-not_told c =
    let t = table_view c.args.table.now in
    let p = err_from_is_err_and c.from_residual.result c.from_residual.ensures.1 in
    rw (p.1, p.2) (never_told t (Err c.in_err-doc.field-0.0) (stops_before c.in_err-doc.field-0.0 (form_faults t) (row_faults (document t).value) (document t).value (estate_of (document t).value) c.in_err-doc.ensures))
