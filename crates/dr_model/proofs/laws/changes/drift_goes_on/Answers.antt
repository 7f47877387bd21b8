use Rattle.dr_model.proofs.SinceLaws.{since_drift}
use Rattle.dr_model.proofs.laws.changes.drift_goes_on.Goals as goal

pub returns : goal.returns
returns g c = since_drift (g.D.Disk.images c.args.entry.now) (g.D.Disk.images c.args.now.now)
