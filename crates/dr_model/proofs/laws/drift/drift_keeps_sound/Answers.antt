use Rattle.dr_model.proofs.SoundDrift.{file_sound_drift}
use Rattle.dr_model.proofs.laws.drift.drift_keeps_sound.Goals as goal

pub returns : goal.returns
returns c = file_sound_drift
