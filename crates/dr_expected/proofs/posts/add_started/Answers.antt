use Rattle.dr_expected.specs.Standings.{IsStanding}
use Rattle.dr_expected.proofs.PostLaws.{gains-more, gains-one}
use Rattle.dr_expected.proofs.posts.add_started.Goals as goal

pub returns : goal.returns
returns c =
    gains-more IsStanding _ _ c.args.list.now.items c.add.new.list.items c.add-2.new.list.items c.in_ok-add.ensures (gains-one IsStanding _ _ _ c.in_ok-add-2.ensures)
