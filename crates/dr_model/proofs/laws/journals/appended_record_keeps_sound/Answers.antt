use Rattle.dr_model.proofs.FileLaws.{append_all, append_sound}
use Rattle.dr_model.proofs.laws.journals.appended_record_keeps_sound.Goals as goal

pub returns-clause-tell : goal.returns-clause-tell
returns-clause-tell g c = λ setting runs item body. append_all setting runs item body (g.D.Disk.images c.args.before.now) (g.D.Disk.images c.args.after.now)

pub returns-clause-sound : goal.returns-clause-sound
returns-clause-sound g c = λ setting runs item body world. append_sound setting runs item body world (g.D.Disk.images c.args.before.now) (g.D.Disk.images c.args.after.now)
