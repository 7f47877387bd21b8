use Rattle.dr_model.proofs.MarkLaws.{marks_opened}
use Rattle.dr_model.proofs.laws.marks.opened_line_has_mark.Goals as goal

pub returns : goal.returns
returns g c = marks_opened (g.D.Disk.images c.args.entry.now) (g.D.Disk.images c.args.opened.now) (g.D.Disk.images c.args.exit.now)
