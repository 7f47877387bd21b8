use Rattle.std.proofs.Common.{◌≡◌, ◌<◌, ℕ, length, All, Some, slice_get}
use Rattle.dr_plan.specs.declared.plan.Plan.{Plan}
use Rattle.dr_plan.specs.Faults.{IsValid}
use Rattle.dr_plan.specs.Plans.{IsPlanOf}
use Rattle.dr_plan.specs.Orders.{IsOrdered}
use Rattle.dr_declared.proofs.protection.all_plans.Given as goal

abbrev pub invariant-loop-number : goal.invariant-loop-number
invariant-loop-number l = record {
  one_each : length l.plans.items ≡ l.number;
  each : (number : ℕ) (plan : Plan) → slice_get l.plans.items number ≡ Some plan → IsPlanOf l.estate l.members number plan;
  valid : (number : ℕ) → number < l.number → IsValid l.estate l.members number;
  ordered : All IsOrdered l.plans.items;
}
