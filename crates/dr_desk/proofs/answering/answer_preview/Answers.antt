use Rattle.std.proofs.Common.{List, ap, sym, ◌∙◌}
use Rattle.dr_plan.specs.declared.plan.Plan.{Plan}
use Rattle.dr_desk.specs.Decisions.{plan_named}
use Rattle.dr_desk.proofs.TestableLaws.{named_at, named_machines}
use Rattle.dr_desk.proofs.answering.answer_preview.Goals as goal

pub show_plan-requires-clause-machines : goal.show_plan-requires-clause-machines
show_plan-requires-clause-machines c =
    let at = named_at c.args.declared.now.plans c.args.name c.in-Some.plan.now (ap (λ (plans : List Plan). plan_named plans c.args.name) (sym c.as_slice.ensures) ∙ sym c.in-Some.ensures) in
    named_machines c.args.declared.now at.0 c.in-Some.plan.now c.requires.declared at.1
