use Rattle.dr_model.proofs.DamageLaws.{sound_not_damaged}
use Rattle.dr_model.proofs.laws.damage.sound_file_is_not_damaged.Goals as goal

pub returns : goal.returns
returns c = sound_not_damaged
