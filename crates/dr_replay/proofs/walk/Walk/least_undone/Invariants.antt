use Rattle.std.proofs.Common.{◌≡◌, ◌+◌, drop, not}
use Rattle.dr_meaning.specs.Next.{least_stage}
use Rattle.dr_meaning.specs.Visits.{is_done}
use Rattle.dr_replay.specs.Values.{run_of}
use Rattle.dr_replay.proofs.walk.Walk.least_undone.Given as goal

abbrev pub invariant-loop-i : goal.invariant-loop-i
invariant-loop-i l = least_stage (λ n stage. not (is_done (run_of l.self.run.now).log n)) 1 l.self.stages.items ≡ least_stage (λ n stage. not (is_done (run_of l.self.run.now).log n)) (l.i + 1) (drop l.i l.self.stages.items)
