use Rattle.std.proofs.Common.{◌≡◌, take, false}
use Rattle.std.specs.Prelude.{IsTrue, ◌↔◌}
use Rattle.std.specs.List.{AllByRecursion}
use Rattle.dr_meaning.specs.Runs.{holds}
use Rattle.dr_replay.specs.Values.{run_of}
use Rattle.dr_replay.proofs.starts.holds_none.Given as goal

abbrev pub invariant-loop-group : goal.invariant-loop-group
invariant-loop-group l = IsTrue l.none ↔ AllByRecursion (λ g. holds g (run_of l.run) ≡ false) (take l.group-index l.groups)
