use Rattle.dr_model.proofs.SinceKept.{since_keeps, since_changes, since_empty}
use Rattle.dr_model.proofs.laws.changes.kept_records_tell_change.Goals as goal

pub returns-clause-keeps : goal.returns-clause-keeps
returns-clause-keeps g c = λ old new added s. since_keeps (g.D.Disk.images c.args.entry.now) (g.D.Disk.images c.args.exit.now) old new added s

pub returns-clause-changes : goal.returns-clause-changes
returns-clause-changes g c = λ setting was more runs old new added file s here kept longest stand. since_changes (g.D.Disk.images c.args.entry.now) (g.D.Disk.images c.args.exit.now) old new added s setting was more runs file here kept longest stand

pub returns-clause-empty : goal.returns-clause-empty
returns-clause-empty g c = λ old new added file s here longest. since_empty (g.D.Disk.images c.args.entry.now) (g.D.Disk.images c.args.exit.now) old new added s file here longest
