use Rattle.std.proofs.Common.{ℤ, SFits, w64, IsTrue, bytes_eq, sym, subst, rules}
use Rattle.std.proofs.lemmas.Int.{to_z-of_z}
use Rattle.dr_inventory.specs.declared.estate.PlanMachineRow.{PlanMachineRow}
use Rattle.dr_plan.specs.Rows.{is_priority}
use Rattle.dr_plan.proofs.PlanLaws.{found_all}
use Rattle.dr_plan.proofs.plans.settings_of.Goals as goal

pub natural-requires : goal.natural-requires
natural-requires c =
    let m = c.in-Some.machine.now in
    let fits : SFits w64 m.priority = search rules in
    let P : ℤ → Type 0 = λ z. IsTrue (is_priority z) in
    let Q : PlanMachineRow → Type 0 = λ r. IsTrue (is_priority r.priority) in
    subst P (sym (to_z-of_z w64 m.priority fits)) (found_all Q (λ r. bytes_eq c.args.name.now r.name) c.args.row.now.machine m (sym c.in-Some.ensures) c.requires.priorities)
