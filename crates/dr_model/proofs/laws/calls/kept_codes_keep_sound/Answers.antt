use Rattle.dr_model.proofs.MachineSound.{kept_sound, file_kept_sound}
use Rattle.dr_model.proofs.laws.calls.kept_codes_keep_sound.Goals as goal

pub returns-clause-by_runs : goal.returns-clause-by_runs
returns-clause-by_runs c = λ setting runs old now more. kept_sound old now more setting runs

pub returns-clause-by_file : goal.returns-clause-by_file
returns-clause-by_file c = λ old now file more. file_kept_sound old now more file
