use Rattle.dr_expected.specs.Standings.{IsStanding}
use Rattle.dr_expected.proofs.PostLaws.{gains-more, gains-one, gains-none}
use Rattle.dr_expected.proofs.posts.add_failed.Goals as goal

pub returns-in_ok-add-in-Clear-2 : goal.returns-in_ok-add-in-Clear-2
returns-in_ok-add-in-Clear-2 c =
    rw c.in-Clear.is (gains-more IsStanding _ _ c.args.list.now.items c.add-in-Clear.new.list.items c.add-in-Clear-2.new.list.items c.in_ok-add-in-Clear.ensures (gains-one IsStanding _ _ _ (rw c.stopped.ensures at c.in_ok-add-in-Clear-2.ensures)))
