use Rattle.dr_model.proofs.MarkLaws.{marks_none}
use Rattle.dr_model.proofs.laws.marks.no_line_has_no_mark.Goals as goal

pub returns : goal.returns
returns g c = marks_none (g.D.Disk.images c.args.entry.now) (g.D.Disk.images c.args.exit.now)
