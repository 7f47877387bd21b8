use Rattle.dr_expected.specs.Standings.{IsStanding}
use Rattle.dr_expected.proofs.PostLaws.{gains-more, gains-none}
use Rattle.dr_expected.proofs.posts.add_starts.Goals as goal

pub returns-in_ok-add_started-in-Placeholder : goal.returns-in_ok-add_started-in-Placeholder
returns-in_ok-add_started-in-Placeholder c =
    rw c.in-Placeholder.is (gains-more IsStanding _ _ c.args.list.now.items c.add.new.list.items c.add_started.new.list.items (rw c.in-Placeholder.is at c.in_ok-add-in-Placeholder.ensures) c.in_ok-add_started-in-Placeholder.ensures)
