use Rattle.std.specs.Prelude.{◌≡◌, ◌+◌, ◌≤◌, length}
use Rattle.std.proofs.Common.{arith}
use Rattle.dr_progress.proofs.FactLaws.{puts_excuse_only}
use Rattle.dr_progress.proofs.ExcuseLaws.{skip_keeps}
use Rattle.dr_progress.proofs.progress.Progress.skip.Goals as goal

pub returns-clause-kept : goal.returns-clause-kept
returns-clause-kept c = λ log fewer begun kept.
    let few : c.args.self.now.attempts + (c.args.self.now.skips + c.args.self.now.visits) ≤ length log = kept.counts.few in
    let more : c.saturating_add-self.result ≡ c.args.self.now.skips + 1 = omega (arith, c.saturating_add-self.ensures, few, fewer) in
    rw more (skip_keeps c.args.facts.now c.excuse.new.self c.args.run c.args.stage c.args.machine c.args.self.now log begun c.excuse.ensures.puts kept)

pub returns-clause-others : goal.returns-clause-others
returns-clause-others c = puts_excuse_only _ _ _ _ _ _ c.excuse.ensures.puts
