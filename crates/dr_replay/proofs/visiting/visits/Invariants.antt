use Rattle.std.proofs.Common.{◌≡◌, take}
use Rattle.dr_meaning.specs.Visits.{visits as visits_in}
use Rattle.dr_replay.specs.Values.{visits_told, newest_first}
use Rattle.dr_replay.proofs.visiting.visits.Given as goal

abbrev pub invariant-loop-item : goal.invariant-loop-item
invariant-loop-item l = visits_told l.list.items ≡ visits_in (newest_first (take l.item-index l.log))
