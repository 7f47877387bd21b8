use Rattle.dr_model.proofs.FitsDrift.{drift_fits}
use Rattle.dr_model.proofs.laws.drift.drift_keeps_fit.Goals as goal

pub returns : goal.returns
returns c = drift_fits
