use Rattle.std.proofs.Common.{◌≡◌, take}
use Rattle.dr_meaning.specs.Lawful.{over_for}
use Rattle.dr_replay.specs.Values.{runs_told}
use Rattle.dr_replay.proofs.starts.over_for.Given as goal

abbrev pub invariant-loop-run : goal.invariant-loop-run
invariant-loop-run l = l.over ≡ over_for l.row (runs_told (take l.run-index l.runs))
