use Rattle.dr_plan.proofs.FaultLaws.{valid_has_none}
use Rattle.dr_plan.proofs.laws.valid_plans_have_no_fault.Goals as goal

pub returns : goal.returns
returns c = valid_has_none
