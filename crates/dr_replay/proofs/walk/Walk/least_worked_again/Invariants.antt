use Rattle.std.proofs.Common.{◌≡◌, ◌+◌, drop}
use Rattle.dr_meaning.specs.Next.{least_stage, is_worked_again}
use Rattle.dr_replay.specs.Values.{run_of}
use Rattle.dr_replay.proofs.walk.Walk.least_worked_again.Given as goal

abbrev pub invariant-loop-i : goal.invariant-loop-i
invariant-loop-i l = least_stage (is_worked_again (run_of l.self.run.now)) 1 l.self.stages.items ≡ least_stage (is_worked_again (run_of l.self.run.now)) (l.i + 1) (drop l.i l.self.stages.items)
