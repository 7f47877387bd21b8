use Rattle.dr_model.proofs.SinceAppend.{estate_done, estate_any}
use Rattle.dr_model.proofs.laws.changes.estate_goes_on.Goals as goal

pub returns-clause-done : goal.returns-clause-done
returns-clause-done g c = λ setting bytes body old world added all declares spelled sound follows s. estate_done (g.D.Disk.images c.args.entry.now) (g.D.Disk.images c.args.before.now) (g.D.Disk.images c.args.after.now) setting bytes body old world added all declares spelled sound s follows

pub returns-clause-any_exit : goal.returns-clause-any_exit
returns-clause-any_exit g c = λ setting bytes body old world added all declares spelled sound follows s. estate_any (g.D.Disk.images c.args.entry.now) (g.D.Disk.images c.args.before.now) (g.D.Disk.images c.args.after.now) setting bytes body old world added all declares spelled sound s follows
