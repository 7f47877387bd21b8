use Rattle.std.proofs.Common.{◌∙◌, ◌+◌, ℕ, List, drop, find, flat_map, not, sym}
use Rattle.dr_inventory.proofs.PlaceLaws.{find_more, or_here, or_there}
use Rattle.dr_plan.specs.Faults.{named_machines}
use Rattle.dr_plan.specs.Lookups.{is_marked_name}
use Rattle.dr_plan.proofs.machines.first_unknown.Goals as goal

pub returns-then-is_some : goal.returns-then-is_some
returns-then-is_some c =
    let p = λ (n : List ℕ). not (is_marked_name c.args.machines.now c.args.marks.now n) in
    or_here c.unplanned_in-name.result (find p (flat_map named_machines (drop (c.loop-row.row-index + 1) c.args.rows.now))) (find p (named_machines c.row-item.result)) c.unplanned_in-name.ensures (sym c.is_some.ensures ∙ c.if-is_some.true)
    ∙ sym (find_more p named_machines c.args.rows.now c.loop-row.row-index c.row-item.result c.loop-row-test.true c.row-item.is) ∙ c.loop-row.invariant

pub loop-row-preserved : goal.loop-row-preserved
loop-row-preserved c =
    let p = λ (n : List ℕ). not (is_marked_name c.args.machines.now c.args.marks.now n) in
    or_there c.unplanned_in-name.result (find p (flat_map named_machines (drop (c.loop-row.row-index + 1) c.args.rows.now))) (find p (named_machines c.row-item.result)) c.unplanned_in-name.ensures (sym c.is_some.ensures ∙ c.if-is_some.false)
    ∙ sym (find_more p named_machines c.args.rows.now c.loop-row.row-index c.row-item.result c.loop-row-test.true c.row-item.is) ∙ c.loop-row.invariant
