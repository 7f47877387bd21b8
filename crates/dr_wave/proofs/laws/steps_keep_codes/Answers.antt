use Rattle.dr_wave.proofs.StepFacts.{step_keeps, step_grows}
use Rattle.dr_wave.proofs.laws.steps_keep_codes.Goals as goal

pub returns-clause-keeps : goal.returns-clause-keeps
returns-clause-keeps g c = λ tells. step_keeps g.P.Port.tells tells

pub returns-clause-grows : goal.returns-clause-grows
returns-clause-grows g c = λ tells. step_grows g.P.Port.tells tells
