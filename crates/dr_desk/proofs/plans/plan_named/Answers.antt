use Rattle.std.proofs.Common.{bytes_eq, length, refl, sym, ◌∙◌}
use Rattle.std.proofs.lemmas.Option.{slice_get_read}
use Rattle.dr_plan.specs.declared.plan.Plan.{Plan}
use Rattle.dr_desk.proofs.FindLaws.{found_next, none_next}
use Rattle.dr_desk.proofs.plans.plan_named.Goals as goal

pub returns-then-eq : goal.returns-then-eq
returns-then-eq c = sym (found_next (λ (p : Plan). bytes_eq p.name c.args.name.now) c.args.plans.now c.loop-plan.plan-index c.plan-item.result c.loop-plan.invariant (slice_get_read c.args.plans.now (length c.args.plans.now) c.loop-plan.plan-index c.plan-item.result refl c.loop-plan-test.true c.plan-item.is) (sym c.eq.ensures ∙ c.if-eq.true))

pub loop-plan-preserved : goal.loop-plan-preserved
loop-plan-preserved c = none_next (λ (p : Plan). bytes_eq p.name c.args.name.now) c.args.plans.now c.loop-plan.plan-index c.plan-item.result c.loop-plan.invariant (slice_get_read c.args.plans.now (length c.args.plans.now) c.loop-plan.plan-index c.plan-item.result refl c.loop-plan-test.true c.plan-item.is) (sym c.eq.ensures ∙ c.if-eq.false)
