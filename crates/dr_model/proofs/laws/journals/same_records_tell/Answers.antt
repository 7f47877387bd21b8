use Rattle.dr_model.proofs.FileLaws.{same_tells, same_sound}
use Rattle.dr_model.proofs.laws.journals.same_records_tell.Goals as goal

pub returns-clause-tells : goal.returns-clause-tells
returns-clause-tells c = same_tells

pub returns-clause-sound : goal.returns-clause-sound
returns-clause-sound c = same_sound
