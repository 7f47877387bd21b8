use Rattle.dr_expected.proofs.PostLaws.{adds_sure, adds_unsure}
use Rattle.dr_expected.proofs.posts.add_over.Goals as goal

pub returns-then-complete : goal.returns-then-complete
returns-then-complete c =
    adds_sure c.args.wanted.now c.args.kind c.args.complete c.args.standing.now c.args.list.now.items _ c.if-complete.true (rw c.made.ensures at c.in_ok-add.ensures)

pub returns : goal.returns
returns c =
    adds_unsure c.args.wanted.now c.args.kind c.args.complete c.args.standing.now c.args.list.now.items _ _ c.if-complete.false (rw c.made.ensures at c.in_ok-add.ensures) c.in_ok-add_failed.ensures
