use Rattle.std.proofs.Common.{take}
use Rattle.dr_expected.specs.Expecting.{Leads}
use Rattle.dr_expected.specs.Standings.{IsStanding, PostOver, placed_value}
use Rattle.dr_expected.proofs.posts.over_stage.Given as goal

abbrev pub invariant-loop-standing : goal.invariant-loop-standing
invariant-loop-standing l = Leads IsStanding (PostOver l.kind (placed_value l.wanted) l.complete) (take l.standing-index l.list) l.next.items
