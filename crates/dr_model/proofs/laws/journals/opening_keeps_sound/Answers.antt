use Rattle.dr_model.proofs.FileLaws.{same_all, opened_sound}
use Rattle.dr_model.proofs.laws.journals.opening_keeps_sound.Goals as goal

pub returns-clause-tell : goal.returns-clause-tell
returns-clause-tell g c = λ setting runs. same_all setting runs (g.D.Disk.images c.args.before.now) (g.D.Disk.images c.args.after.now)

pub returns-clause-sound : goal.returns-clause-sound
returns-clause-sound g c = λ world. opened_sound world (g.D.Disk.images c.args.before.now) (g.D.Disk.images c.args.after.now)
