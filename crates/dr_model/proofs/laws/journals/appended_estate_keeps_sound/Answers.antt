use Rattle.dr_model.proofs.FileLaws.{declare_all, declare_sound}
use Rattle.dr_model.proofs.laws.journals.appended_estate_keeps_sound.Goals as goal

pub returns-clause-tell : goal.returns-clause-tell
returns-clause-tell g c = λ setting bytes body. declare_all setting bytes body (g.D.Disk.images c.args.before.now) (g.D.Disk.images c.args.after.now)

pub returns-clause-sound : goal.returns-clause-sound
returns-clause-sound g c = λ setting bytes body world. declare_sound setting bytes body world (g.D.Disk.images c.args.before.now) (g.D.Disk.images c.args.after.now)
