use Rattle.std.proofs.Common.{arith, subst}
use Rattle.dr_expected.specs.Expecting.{Adds}
use Rattle.dr_expected.specs.Standings.{IsStanding, PostOver, placed_value}
use Rattle.dr_expected.proofs.ShownLaws.{leads-more}
use Rattle.dr_expected.proofs.posts.over_stage.Goals as goal

pub loop-standing-preserved : goal.loop-standing-preserved
loop-standing-preserved c =
    let over = PostOver c.args.kind (placed_value c.args.wanted.now) c.args.complete in
    leads-more IsStanding over c.args.list.now c.loop-standing.next.items c.add_over.new.list.items c.loop-standing.standing-index c.standing-item.result (omega arith) c.loop-standing.invariant
    (subst (λ s. Adds IsStanding over s c.loop-standing.next.items c.add_over.new.list.items) c.standing-item.is c.in_ok-add_over.ensures)
