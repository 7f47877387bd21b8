use Rattle.dr_model.proofs.FileLaws.{sound_by_told, told_sound}
use Rattle.dr_model.proofs.laws.journals.file_is_sound_by_its_runs.Goals as goal

pub returns : goal.returns
returns c = λ setting runs world file tells. (sound_by_told setting runs world file tells, told_sound setting runs world file tells)
