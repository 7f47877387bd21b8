use Rattle.std.proofs.Common.{take}
use Rattle.std.specs.Prelude.{IsTrue, ◌↔◌}
use Rattle.std.specs.List.{AllByRecursion}
use Rattle.dr_meaning.specs.Runs.{group_state}
use Rattle.dr_meaning.specs.Lawful.{StartsFrom}
use Rattle.dr_replay.specs.Values.{runs_told}
use Rattle.dr_replay.proofs.starts.all_start_from.Given as goal

abbrev pub invariant-loop-group : goal.invariant-loop-group
invariant-loop-group l = IsTrue l.all ↔ AllByRecursion (λ g. StartsFrom l.row.op l.row.plan (group_state l.estate g (runs_told l.runs))) (take l.group-index l.group-items)
