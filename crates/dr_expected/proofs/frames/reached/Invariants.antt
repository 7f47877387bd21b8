use Rattle.std.proofs.Common.{take}
use Rattle.dr_meaning.specs.Reach.{Through, FrameStep}
use Rattle.dr_replay.specs.Values.{run_of, visits_told}
use Rattle.dr_expected.specs.Expecting.{Leads, IsFrame}
use Rattle.dr_expected.proofs.frames.reached.Given as goal

abbrev pub invariant-loop-visit : goal.invariant-loop-visit
invariant-loop-visit l = Leads IsFrame (Through (FrameStep (run_of l.walk.run.now)) (visits_told (take l.visit-index l.walk.visits.items))) l.initial.next.items l.next.items
