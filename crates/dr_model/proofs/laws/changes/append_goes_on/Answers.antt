use Rattle.dr_model.proofs.SinceAppend.{append_done, append_any}
use Rattle.dr_model.proofs.laws.changes.append_goes_on.Goals as goal

pub returns-clause-done : goal.returns-clause-done
returns-clause-done g c = λ setting records runs stand item body old world added all may spelled keeps read follows s. append_done (g.D.Disk.images c.args.entry.now) (g.D.Disk.images c.args.before.now) (g.D.Disk.images c.args.after.now) setting records runs stand item body old world added all may spelled keeps read s follows

pub returns-clause-any_exit : goal.returns-clause-any_exit
returns-clause-any_exit g c = λ setting records runs stand item body old world added all may spelled keeps read follows s. append_any (g.D.Disk.images c.args.entry.now) (g.D.Disk.images c.args.before.now) (g.D.Disk.images c.args.after.now) setting records runs stand item body old world added all may spelled keeps read s follows
