use Rattle.std.proofs.Common.{◌≡◌, take}
use Rattle.std.specs.List.{list_any}
use Rattle.dr_meaning.specs.Runs.{is_finish}
use Rattle.dr_replay.specs.Values.{newest_first}
use Rattle.dr_replay.proofs.runs.Run.is_finished.Given as goal

abbrev pub invariant-loop-item : goal.invariant-loop-item
invariant-loop-item l = l.found ≡ list_any is_finish (newest_first (take l.item-index l.item-items))
