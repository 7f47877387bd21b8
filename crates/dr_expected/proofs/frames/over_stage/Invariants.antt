use Rattle.std.proofs.Common.{take}
use Rattle.dr_replay.specs.Values.{run_of}
use Rattle.dr_expected.specs.Expecting.{Leads, IsFrame, FrameOver}
use Rattle.dr_expected.proofs.frames.over_stage.Given as goal

abbrev pub invariant-loop-frame : goal.invariant-loop-frame
invariant-loop-frame l = Leads IsFrame (FrameOver (run_of l.run) l.kind l.complete) (take l.frame-index l.frames) l.next.items
