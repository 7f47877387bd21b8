use Rattle.std.proofs.Common.{◌≡◌, take}
use Rattle.std.specs.Prelude.{IsTrue, ◌↔◌}
use Rattle.std.specs.List.{AllByRecursion}
use Rattle.dr_meaning.specs.Runs.{group_state}
use Rattle.dr_replay.specs.Values.{runs_told}
use Rattle.dr_replay.proofs.starts.are_protected_at.Given as goal

abbrev pub invariant-loop-group : goal.invariant-loop-group
invariant-loop-group l = IsTrue l.all ↔ AllByRecursion (λ g. (group_state l.estate g (runs_told l.runs)).protected ≡ l.side) (take l.group-index l.groups)
