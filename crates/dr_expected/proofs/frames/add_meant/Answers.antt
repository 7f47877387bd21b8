use Rattle.std.proofs.Common.{sym, ◌∙◌}
use Rattle.dr_replay.specs.Values.{run_of}
use Rattle.dr_expected.proofs.FrameLaws.{adds_meant, adds_meant_or_split}
use Rattle.dr_expected.proofs.frames.add_meant.Goals as goal

pub returns-in_ok-add-2 : goal.returns-in_ok-add-2
returns-in_ok-add-2 c =
    adds_meant_or_split (run_of c.args.run.now) c.args.frame c.meant.result c.meant.ensures c.split.result _ _ _ (sym c.requires ∙ c.if-skipped.true) c.split.ensures c.in_ok-add.ensures c.in_ok-add-2.ensures

pub returns-else-skipped : goal.returns-else-skipped
returns-else-skipped c =
    adds_meant (run_of c.args.run.now) c.args.frame c.meant.result c.meant.ensures _ _ (sym c.requires ∙ c.if-skipped.false) c.in_ok-add.ensures
