use Rattle.std.proofs.Common.{take}
use Rattle.dr_meaning.specs.Expected.{ExpectedFrame}
use Rattle.dr_replay.specs.Values.{run_of, runs_told}
use Rattle.dr_expected.specs.Expecting.{Lists, IsFrame}
use Rattle.dr_expected.proofs.frames.expected.Given as goal

abbrev pub invariant-loop-run : goal.invariant-loop-run
invariant-loop-run l = Lists IsFrame (ExpectedFrame l.estate l.group (runs_told (take l.run-index l.runs))) l.list.items
