use Rattle.std.proofs.Common.{◌≡◌, take, bytes_eq}
use Rattle.std.specs.Prelude.{find, None}
use Rattle.dr_plan.specs.declared.plan.Plan.{Plan}
use Rattle.dr_desk.proofs.plans.plan_named.Given as goal

abbrev pub invariant-loop-plan : goal.invariant-loop-plan
invariant-loop-plan l = find (λ (p : Plan). bytes_eq p.name l.name) (take l.plan-index l.plans) ≡ None
