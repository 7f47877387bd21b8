use Rattle.dr_plan.proofs.WaveOrder.{are_waves}
use Rattle.dr_plan.proofs.laws.waves_of_ordered_plans.Goals as goal

pub returns : goal.returns
returns c = are_waves
