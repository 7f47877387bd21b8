use Rattle.std.proofs.Common.{take, IsTrue, ◌↔◌}
use Rattle.dr_expected.specs.Expecting.{HasItemFor}
use Rattle.dr_expected.specs.Standings.{IsStanding}
use Rattle.dr_expected.proofs.posts.shows.Given as goal

abbrev pub invariant-loop-standing : goal.invariant-loop-standing
invariant-loop-standing l = IsTrue l.found ↔ HasItemFor IsStanding (take l.standing-index l.list) l.post
