use Rattle.std.proofs.Common.{take}
use Rattle.dr_meaning.specs.Meaning.{MeansFrame}
use Rattle.dr_replay.specs.Values.{run_of}
use Rattle.dr_expected.specs.Expecting.{Leads, IsFrame}
use Rattle.dr_expected.proofs.frames.meant.Given as goal

abbrev pub invariant-loop-frame : goal.invariant-loop-frame
invariant-loop-frame l = Leads IsFrame (MeansFrame (run_of l.walk.run.now)) (take l.frame-index l.frames) l.next.items
