use Rattle.dr_replay.specs.Values.{run_of}
use Rattle.dr_expected.proofs.FrameLaws.{adds_made, adds_made_or_kept}
use Rattle.dr_expected.proofs.frames.add_over.Goals as goal

pub returns-then-complete : goal.returns-then-complete
returns-then-complete c =
    adds_made (run_of c.args.run.now) c.args.kind c.args.complete c.args.frame c.made.result _ _ c.if-complete.true c.made.ensures c.in_ok-add.ensures

pub returns : goal.returns
returns c =
    adds_made_or_kept (run_of c.args.run.now) c.args.kind c.args.complete c.args.frame c.made.result _ _ _ c.if-complete.false c.made.ensures c.in_ok-add.ensures c.in_ok-add-2.ensures
