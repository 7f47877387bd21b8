use Rattle.dr_model.proofs.LinesAreOne.{since_both}
use Rattle.dr_model.proofs.laws.changes.lines_are_one.Goals as goal

pub returns : goal.returns
returns g c = λ old middle new first second s t. since_both (g.D.Disk.images c.args.entry.now) (g.D.Disk.images c.args.between.now) (g.D.Disk.images c.args.exit.now) old middle new first second s t
