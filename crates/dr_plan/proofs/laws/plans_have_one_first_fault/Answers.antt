use Rattle.dr_plan.proofs.FaultLaws.{one_fault}
use Rattle.dr_plan.proofs.laws.plans_have_one_first_fault.Goals as goal

pub returns : goal.returns
returns c = one_fault
