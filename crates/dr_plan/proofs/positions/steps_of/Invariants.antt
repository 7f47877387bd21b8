use Rattle.std.proofs.Common.{◌≡◌, map, take}
use Rattle.dr_plan.specs.Plans.{plan_step}
use Rattle.dr_plan.proofs.positions.steps_of.Given as goal

abbrev pub invariant-loop-step : goal.invariant-loop-step
invariant-loop-step l = l.list.items ≡ map plan_step (take l.step-index l.steps)
