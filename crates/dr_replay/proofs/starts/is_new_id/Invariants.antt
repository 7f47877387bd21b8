use Rattle.std.proofs.Common.{◌≢◌, take}
use Rattle.std.specs.Prelude.{IsTrue, ◌↔◌}
use Rattle.std.specs.List.{AllByRecursion}
use Rattle.dr_replay.specs.Values.{runs_told}
use Rattle.dr_replay.proofs.starts.is_new_id.Given as goal

abbrev pub invariant-loop-run : goal.invariant-loop-run
invariant-loop-run l = IsTrue l.new ↔ AllByRecursion (λ run. run.start.id ≢ l.id) (runs_told (take l.run-index l.runs))
