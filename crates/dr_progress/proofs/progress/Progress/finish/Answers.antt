use Rattle.dr_progress.proofs.DoneLaws.{finish_keeps}
use Rattle.dr_progress.proofs.progress.Progress.finish.Goals as goal

pub returns : goal.returns
returns c = λ facts run machines log kept. finish_keeps facts run c.args.moment machines c.args.self.now log kept
