use Rattle.dr_model.proofs.DamageLaws.{found, restart_sound, restart_tells, restart_keeps}
use Rattle.dr_model.proofs.laws.journals.restart_finds_one_image.Goals as goal

pub returns-clause-images : goal.returns-clause-images
returns-clause-images g c = λ file. found file (g.D.Disk.images c.args.before.now) (g.E.Disk.images c.args.after.now)

pub returns-clause-sound : goal.returns-clause-sound
returns-clause-sound g c = λ file world here one. restart_sound file (g.D.Disk.images c.args.before.now) (g.E.Disk.images c.args.after.now) here one world

pub returns-clause-tell : goal.returns-clause-tell
returns-clause-tell g c = λ file setting runs here one. restart_tells file (g.D.Disk.images c.args.before.now) (g.E.Disk.images c.args.after.now) here one setting runs

pub returns-clause-keeps : goal.returns-clause-keeps
returns-clause-keeps g c = λ file. restart_keeps file (g.D.Disk.images c.args.before.now) (g.E.Disk.images c.args.after.now)
