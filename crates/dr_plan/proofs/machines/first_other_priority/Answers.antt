use Rattle.std.proofs.Common.{◌∙◌, ◌<◌, ℕ, List, Some, length, get_or, not, sym, ap, arith}
use Rattle.std.specs.Ordering.{int_eq}
use Rattle.dr_inventory.specs.Names.{first}
use Rattle.dr_inventory.specs.Places.{number_in}
use Rattle.dr_plan.specs.Rows.{priority_of}
use Rattle.dr_plan.specs.Faults.{other_pairs}
use Rattle.dr_plan.proofs.FirstLaws.{rows_here, rows_next, pair_found, none_found}
use Rattle.dr_plan.proofs.machines.first_other_priority.Goals as goal

pub returns-in-Some : goal.returns-in-Some
returns-in-Some c =
    let row = c.args.row.now in
    let x = c.machine-item.result in
    let i = c.loop-machine.machine-index in
    let number = number_in c.args.machines.now in
    let test = λ (n : List ℕ). not (int_eq (priority_of row n) x.priority) in
    let within : i < length row.machine = omega (arith, c.loop-machine-test.true, ap length c.as_slice-machine-items.ensures) in
    let here = rows_here (other_pairs number row) row.machine i x (number x.name, number c.in-Some.name) within (c.machine-item.is ∙ ap (λ xs. get_or xs i x) c.as_slice-machine-items.ensures)
    (pair_found (λ (n : List ℕ). (number x.name, number n)) test x.after c.in-Some.name c.in-Some.ensures) in
    ap (λ (k : ℕ). Some (k, c.number_of-in-Some.result)) c.number_of.ensures ∙ ap (λ (k : ℕ). Some (number x.name, k)) c.number_of-in-Some.ensures ∙ sym here ∙ c.loop-machine.invariant

pub loop-machine-preserved : goal.loop-machine-preserved
loop-machine-preserved c =
    let row = c.args.row.now in
    let x = c.machine-item.result in
    let i = c.loop-machine.machine-index in
    let number = number_in c.args.machines.now in
    let test = λ (n : List ℕ). not (int_eq (priority_of row n) x.priority) in
    let within : i < length row.machine = omega (arith, c.loop-machine-test.true, ap length c.as_slice-machine-items.ensures) in
    ap first (rows_next (other_pairs number row) row.machine i x within (c.machine-item.is ∙ ap (λ xs. get_or xs i x) c.as_slice-machine-items.ensures)
    (none_found (λ (n : List ℕ). (number x.name, number n)) test x.after c.in_default.ensures)) ∙ c.loop-machine.invariant
