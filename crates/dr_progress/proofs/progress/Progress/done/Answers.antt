use Rattle.std.specs.Prelude.{◌≡◌, max}
use Rattle.std.proofs.Common.{sym, ◌∙◌, ap}
use Rattle.dr_progress.specs.Progress.{WaitsBehind}
use Rattle.dr_progress.proofs.DoneLaws.{done_keeps}
use Rattle.dr_progress.proofs.progress.Progress.done.Goals as goal

pub returns : goal.returns
returns c = λ facts run stage log is kept.
    let same : stage ≡ c.in-Some.stage = cc in
    let most : c.max-self.result ≡ max c.args.self.now.walked stage = c.max-self.ensures ∙ ap (λ n. max c.args.self.now.walked n) (sym same) in
    let behind : WaitsBehind c.args.self.now stage c.waits_behind-self.result = rw same c.waits_behind-self.ensures in
    rw most (done_keeps facts run run stage _ c.args.self.now log is behind kept)
