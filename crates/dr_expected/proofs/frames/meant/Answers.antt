use Rattle.std.proofs.Common.{arith}
use Rattle.dr_meaning.specs.Meaning.{MeansFrame}
use Rattle.dr_replay.specs.Values.{run_of}
use Rattle.dr_expected.specs.Expecting.{IsFrame}
use Rattle.dr_expected.proofs.ShownLaws.{leads-more}
use Rattle.dr_expected.proofs.frames.meant.Goals as goal

pub loop-frame-preserved : goal.loop-frame-preserved
loop-frame-preserved c =
    leads-more IsFrame (MeansFrame (run_of c.args.walk.now.run.now)) c.args.frames.now _ _ c.loop-frame.frame-index _ (omega arith) c.loop-frame.invariant c.in_ok-add_meant.ensures
