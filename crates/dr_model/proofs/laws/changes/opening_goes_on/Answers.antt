use Rattle.dr_model.proofs.SinceLaws.{since_opened}
use Rattle.dr_model.proofs.laws.changes.opening_goes_on.Goals as goal

pub returns : goal.returns
returns g c = λ old world added. since_opened (g.D.Disk.images c.args.entry.now) (g.D.Disk.images c.args.before.now) (g.D.Disk.images c.args.after.now) old world added
