use Rattle.std.proofs.Common.{take}
use Rattle.dr_meaning.specs.Reach.{Through, PostStep}
use Rattle.dr_replay.specs.Values.{run_of, visits_told}
use Rattle.dr_expected.specs.Expecting.{Leads}
use Rattle.dr_expected.specs.Standings.{IsStanding, placed_value}
use Rattle.dr_expected.proofs.posts.reached.Given as goal

abbrev pub invariant-loop-visit : goal.invariant-loop-visit
invariant-loop-visit l = Leads IsStanding (Through (PostStep (run_of l.walk.run.now) l.machine l.side (placed_value l.wanted)) (visits_told (take l.visit-index l.walk.visits.items))) l.initial.next.items l.next.items
