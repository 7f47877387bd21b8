use Rattle.std.proofs.Common.{ℤ, SFits, w64, sym, subst, rules, IsTrue}
use Rattle.std.proofs.lemmas.Int.{to_z-of_z}
use Rattle.dr_plan.specs.Rows.{is_priority}
use Rattle.dr_plan.proofs.PlanLaws.{step_right}
use Rattle.dr_plan.proofs.positions.steps_of.Goals as goal

pub natural-requires : goal.natural-requires
natural-requires c =
    let x = c.step-item.result in
    let fits : SFits w64 x.before = search rules in
    let P : ℤ → Type 0 = λ z. IsTrue (is_priority z) in
    subst P (sym (to_z-of_z w64 x.before fits)) (step_right 1 c.args.steps.now c.loop-step.step-index x c.requires c.loop-step-test.true c.step-item.is)
