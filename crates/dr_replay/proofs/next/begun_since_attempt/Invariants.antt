use Rattle.std.proofs.Common.{◌≡◌, take}
use Rattle.dr_meaning.specs.Next.{begun_since_attempt}
use Rattle.dr_replay.specs.Values.{newest_first}
use Rattle.dr_replay.proofs.next.begun_since_attempt.Given as goal

abbrev pub invariant-loop-item : goal.invariant-loop-item
invariant-loop-item l = l.found ≡ begun_since_attempt (newest_first (take l.item-index l.log)) l.stage
