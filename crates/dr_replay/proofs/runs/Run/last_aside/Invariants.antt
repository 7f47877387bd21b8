use Rattle.std.proofs.Common.{◌≡◌, take}
use Rattle.dr_meaning.specs.Lawful.{last_aside}
use Rattle.dr_replay.specs.Values.{newest_first}
use Rattle.dr_replay.proofs.runs.Run.last_aside.Given as goal

abbrev pub invariant-loop-item : goal.invariant-loop-item
invariant-loop-item l = l.last ≡ last_aside (newest_first (take l.item-index l.self.log.items))
