use Rattle.std.proofs.Common.{◌∙◌, sym}
use Rattle.std.proofs.lemmas.Result.{err_from_is_err_and}
use Rattle.toml.specs.View.{table_view}
use Rattle.dr_inventory.specs.Documents.{document}
use Rattle.dr_inventory.proofs.FormLaws.{form_ok, form_key, form_name, form_stops}
use Rattle.dr_inventory.proofs.estates.read_form.Goals as goal

pub returns-in-Ok : goal.returns-in-Ok
returns-in-Ok c = form_ok (document (table_view c.args.table.now)) c.in-Ok.doc c.in-Ok.ensures

pub returns-then-is_of_shape : goal.returns-then-is_of_shape
returns-then-is_of_shape c =
    form_key (document (table_view c.args.table.now)) c.in-Err-Fault.fault (sym c.is_of_shape.ensures ∙ c.if-is_of_shape.true) (rw c.in-Err-Fault.field-0-is at c.in-Err-Fault.ensures)

pub returns-in_err-read_document-in-Err-Fault : goal.returns-in_err-read_document-in-Err-Fault
returns-in_err-read_document-in-Err-Fault c =
    let p = err_from_is_err_and c.from_residual.result c.from_residual.ensures.1 in
    rw (p.1, p.2) (form_stops (document (table_view c.args.table.now)) c.in_err-read_document-in-Err-Fault.field-0.0 c.in_err-read_document-in-Err-Fault.ensures)

pub returns-in_ok-read_document-in-Err-Fault : goal.returns-in_ok-read_document-in-Err-Fault
returns-in_ok-read_document-in-Err-Fault c =
    form_name (document (table_view c.args.table.now)) c.in-Err-Fault.fault c.in_ok-read_document-in-Err-Fault.field-0 (sym c.is_of_shape.ensures ∙ c.if-is_of_shape.false)
    (rw c.in-Err-Fault.field-0-is at c.in-Err-Fault.ensures) c.in_ok-read_document-in-Err-Fault.ensures
