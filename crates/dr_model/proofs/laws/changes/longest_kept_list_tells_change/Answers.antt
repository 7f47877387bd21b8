use Rattle.dr_model.proofs.KeptRecords.{kept_changed, kept_one_more, kept_starts}
use Rattle.dr_model.proofs.laws.changes.longest_kept_list_tells_change.Goals as goal

pub returns-clause-one_more : goal.returns-clause-one_more
returns-clause-one_more g c = λ old new added was records sound one s. kept_one_more (g.D.Disk.images c.args.entry.now) (g.D.Disk.images c.args.exit.now) old new added was sound one s records

pub returns-clause-changed : goal.returns-clause-changed
returns-clause-changed g c = λ old new added was more file sound one s here longest. kept_changed (g.D.Disk.images c.args.entry.now) (g.D.Disk.images c.args.exit.now) old new added was sound one s more file here longest

pub returns-clause-starts : goal.returns-clause-starts
returns-clause-starts g c = λ old new added was more file sound one s here has row listed none. kept_starts (g.D.Disk.images c.args.entry.now) (g.D.Disk.images c.args.exit.now) old new added was sound one s more file here has row listed none
