use Rattle.std.proofs.Common.{◌≡◌, take}
use Rattle.std.specs.List.{list_any}
use Rattle.dr_meaning.specs.Next.{is_attempt}
use Rattle.dr_replay.specs.Values.{newest_first}
use Rattle.dr_replay.proofs.next.is_tried_again.Given as goal

abbrev pub invariant-loop-item : goal.invariant-loop-item
invariant-loop-item l = l.found ≡ list_any is_attempt (newest_first (take l.item-index l.log))
