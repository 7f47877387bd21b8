use Rattle.dr_model.proofs.SinceLaws.{since_entry}
use Rattle.dr_model.proofs.laws.changes.entry_is_since.Goals as goal

pub returns : goal.returns
returns g c = since_entry (g.D.Disk.images c.args.entry.now)
