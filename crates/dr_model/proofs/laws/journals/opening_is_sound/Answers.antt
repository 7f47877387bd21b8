use Rattle.dr_model.proofs.SoundOpening.{opening_sound}
use Rattle.dr_model.proofs.laws.journals.opening_is_sound.Goals as goal

pub returns : goal.returns
returns c = opening_sound
