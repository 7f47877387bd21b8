use Rattle.dr_plan.proofs.OrderLaws.{plan_ordered}
use Rattle.dr_plan.proofs.laws.plans_are_ordered.Goals as goal

pub returns : goal.returns
returns c = plan_ordered
