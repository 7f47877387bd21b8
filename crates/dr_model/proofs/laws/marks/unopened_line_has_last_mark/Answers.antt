use Rattle.dr_model.proofs.MarkLaws.{marks_unopened}
use Rattle.dr_model.proofs.laws.marks.unopened_line_has_last_mark.Goals as goal

pub returns : goal.returns
returns g c = marks_unopened (g.D.Disk.images c.args.entry.now) (g.D.Disk.images c.args.exit.now)
