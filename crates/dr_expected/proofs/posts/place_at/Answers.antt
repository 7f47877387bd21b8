use Rattle.std.proofs.Common.{◌≤◌, length}
use Rattle.dr_expected.proofs.PostLaws.{none_placed}
use Rattle.dr_expected.proofs.posts.place_at.Goals as goal

pub returns-then-machine-as_slice : goal.returns-then-machine-as_slice
returns-then-machine-as_slice c =
    none_placed c.args.estate.now c.args.machine c.args.home c.args.side c.args.bubble (rw c.as_slice.ensures at c.if-machine-as_slice.true)
