use Rattle.std.specs.Prelude.{◌≡◌, ◌+◌, ◌≤◌, length}
use Rattle.std.proofs.Common.{arith}
use Rattle.dr_progress.specs.Progress.{asides_in, asides_at, left_in}
use Rattle.dr_progress.proofs.CountLaws.{asides_few, left_few}
use Rattle.dr_progress.proofs.ExcuseLaws.{aside_keeps}
use Rattle.dr_progress.proofs.progress.Progress.set_aside.Goals as goal

pub returns-clause-kept : goal.returns-clause-kept
returns-clause-kept c = λ by log fewer begun kept.
    let all : left_in log ≤ length log = left_few log in
    let left : c.args.self.now.left ≡ left_in log = kept.counts.left in
    let more : c.saturating_add-self.result ≡ c.args.self.now.left + 1 = omega (arith, c.saturating_add-self.ensures, all, left, fewer) in
    let some : asides_in c.args.stage log ≤ length log = asides_few c.args.stage log in
    let told : asides_in c.args.stage log ≡ asides_at c.args.facts.now c.args.run c.args.stage = kept.excuses.counted c.args.stage in
    let before : c.asides-asides.result ≡ asides_at c.args.facts.now c.args.run c.args.stage = c.asides-asides.ensures in
    let another : c.saturating_add.result ≡ asides_at c.args.facts.now c.args.run c.args.stage + 1 = omega (arith, c.saturating_add.ensures, some, told, before, fewer) in
    rw more (aside_keeps _ _ _ _ _ _ by c.args.self.now log begun c.excuse.ensures.puts (rw another at c.visit.ensures.puts) kept)
