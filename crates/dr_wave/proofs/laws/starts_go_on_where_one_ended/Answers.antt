use Rattle.dr_wave.proofs.StepFacts.{step_stands}
use Rattle.dr_wave.proofs.laws.starts_go_on_where_one_ended.Goals as goal

pub returns : goal.returns
returns g c = λ tells want old now found step stood. step_stands _ _ _ stood (step.leaves tells).here
