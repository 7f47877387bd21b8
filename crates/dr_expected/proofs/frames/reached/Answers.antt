use Rattle.std.proofs.Common.{arith, ◌≡◌, ◌<◌, ◌≤◌, length, take, sym, ap, ◌∙◌, reverse, map, ◌∷◌}
use Rattle.std.proofs.lemmas.List.{take_all}
use Rattle.dr_meaning.specs.Visits.{visits as visits_in}
use Rattle.dr_meaning.specs.Reach.{Through, FrameStep}
use Rattle.dr_replay.specs.Values.{run_of, visit_of, visits_told}
use Rattle.dr_expected.specs.Expecting.{Leads, IsFrame}
use Rattle.dr_expected.proofs.ShownLaws.{through-next, through-all}
use Rattle.dr_expected.proofs.frames.reached.Goals as goal

pub loop-visit-preserved : goal.loop-visit-preserved
loop-visit-preserved c =
    through-next IsFrame (FrameStep (run_of c.args.walk.now.run.now)) c.args.walk.now.visits.items c.loop-visit.visit-index c.visit-item.result _ _ _
    (rw c.deref-visit-items.ensures.value at c.loop-visit-test.true) (rw c.deref-visit-items.ensures.value at c.visit-item.is) c.loop-visit.invariant (rw c.deref.ensures.value at c.in_ok-next.ensures)

pub returns : goal.returns
returns c =
    through-all IsFrame (FrameStep (run_of c.args.walk.now.run.now)) c.args.walk.now.visits.items c.loop-visit.visit-index _ _ _
    (rw c.deref-visit-items.ensures.value at c.loop-visit-test.false) c.args.walk.now.visits_are c.loop-visit.invariant
