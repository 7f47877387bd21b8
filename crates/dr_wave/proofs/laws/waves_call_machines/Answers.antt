use Rattle.dr_wave.proofs.StageFacts.{wave_calls}
use Rattle.dr_wave.proofs.laws.waves_call_machines.Goals as goal

pub returns : goal.returns
returns g c = λ tells. wave_calls g.P.Port.tells tells g.P.Port.state
