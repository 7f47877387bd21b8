use Rattle.dr_wave.proofs.StartLaws.{untouched}
use Rattle.dr_wave.proofs.starting.start_machine.Goals as goal

pub returns-in-Err-clause-leaves : goal.returns-in-Err-clause-leaves
returns-in-Err-clause-leaves g c = λ tells. untouched _ _ _ (c.in-Err.ensures.step tells)

pub returns-else-is_as_wanted-clause-leaves : goal.returns-else-is_as_wanted-clause-leaves
returns-else-is_as_wanted-clause-leaves g c = λ tells. untouched _ _ _ ((c.in-Ok.ensures.step tells).1)
