use Rattle.dr_meaning.specs.Reach.{PostStep}
use Rattle.dr_replay.specs.Values.{run_of}
use Rattle.dr_expected.specs.Standings.{IsStanding, placed_value}
use Rattle.dr_expected.proofs.ShownLaws.{through-next, through-all}
use Rattle.dr_expected.proofs.posts.reached.Goals as goal

pub loop-visit-preserved : goal.loop-visit-preserved
loop-visit-preserved c =
    through-next IsStanding (PostStep (run_of c.args.walk.now.run.now) c.args.machine c.args.side (placed_value c.args.wanted.now)) c.args.walk.now.visits.items c.loop-visit.visit-index c.visit-item.result _ _ _
    (rw c.deref-visit-items.ensures.value at c.loop-visit-test.true) (rw c.deref-visit-items.ensures.value at c.visit-item.is) c.loop-visit.invariant (rw c.deref.ensures.value at c.in_ok-next.ensures)

pub returns : goal.returns
returns c =
    through-all IsStanding (PostStep (run_of c.args.walk.now.run.now) c.args.machine c.args.side (placed_value c.args.wanted.now)) c.args.walk.now.visits.items c.loop-visit.visit-index _ _ _
    (rw c.deref-visit-items.ensures.value at c.loop-visit-test.false) c.args.walk.now.visits_are c.loop-visit.invariant
