use Rattle.std.proofs.Common.{◌≡◌, take}
use Rattle.dr_meaning.specs.Runs.{runs_of}
use Rattle.dr_replay.specs.Values.{runs_told, in_force}
use Rattle.dr_replay.proofs.runs.replay.Given as goal

abbrev pub invariant-loop-item : goal.invariant-loop-item
invariant-loop-item l = runs_told l.runs.items ≡ runs_of (in_force l.estate l.plans) (take l.item-index l.records)
