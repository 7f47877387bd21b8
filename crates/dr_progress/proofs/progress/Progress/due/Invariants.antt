use Rattle.std.specs.Prelude.{◌≡◌, ℕ, ◌<◌, ◌≤◌}
use Rattle.dr_progress.specs.Progress.{asides_at}
use Rattle.dr_progress.proofs.progress.Progress.due.Given as goal

abbrev pub invariant-loop-stage : goal.invariant-loop-stage
invariant-loop-stage l = (other : ℕ) → l.self.again_after < other → other ≤ l.stage → asides_at l.facts l.run other ≡ 0
