use Rattle.dr_wave.proofs.laws.steps_are_of_their_stages.Goals as goal

pub returns-clause-stop : goal.returns-clause-stop
returns-clause-stop g c = λ tells side wanted old now found step. (step.leaves tells).here wanted

pub returns-clause-clear : goal.returns-clause-clear
returns-clause-clear g c = λ tells side wanted old now found step. (step.leaves tells).here wanted
