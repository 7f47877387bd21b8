use Rattle.std.proofs.Common.{◌≡◌, take}
use Rattle.dr_meaning.specs.Runs.{group_state}
use Rattle.dr_replay.specs.Values.{runs_told}
use Rattle.dr_replay.proofs.groups.group_state.Given as goal

abbrev pub invariant-loop-run : goal.invariant-loop-run
invariant-loop-run l = l.state ≡ group_state l.estate l.group (runs_told (take l.run-index l.runs))
