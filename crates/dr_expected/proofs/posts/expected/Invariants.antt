use Rattle.std.proofs.Common.{take}
use Rattle.dr_meaning.specs.Expected.{ExpectedPost}
use Rattle.dr_replay.specs.Values.{runs_told}
use Rattle.dr_expected.specs.Expecting.{Lists}
use Rattle.dr_expected.specs.Standings.{IsStanding}
use Rattle.dr_expected.proofs.posts.expected.Given as goal

abbrev pub invariant-loop-run : goal.invariant-loop-run
invariant-loop-run l = Lists IsStanding (ExpectedPost l.estate l.group l.machine l.side (runs_told (take l.run-index l.runs))) l.list.items
