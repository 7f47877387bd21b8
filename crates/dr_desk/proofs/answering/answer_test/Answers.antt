use Rattle.std.proofs.Common.{List, ap, sym, ◌∙◌}
use Rattle.dr_plan.specs.declared.plan.Plan.{Plan}
use Rattle.dr_desk.specs.Decisions.{plan_named}
use Rattle.dr_desk.proofs.TestableLaws.{named_at, testable}
use Rattle.dr_desk.proofs.answering.answer_test.Goals as goal

pub answer_built-requires-clause-testable : goal.answer_built-requires-clause-testable
answer_built-requires-clause-testable g c =
    let at = named_at c.args.declared.now.plans c.args.name c.in-Some.plan.now (ap (λ (plans : List Plan). plan_named plans c.args.name) (sym c.as_slice.ensures) ∙ sym c.in-Some.ensures) in
    testable c.args.declared.now at.0 c.in-Some.plan.now c.requires.declared at.1 (sym c.needs_unbuilt.ensures ∙ c.if-needs_unbuilt.false)
