use Rattle.std.proofs.Common.{ap, sym, ◌∙◌}
use Rattle.dr_replay.specs.Values.{run_of}
use Rattle.dr_expected.proofs.FrameLaws.{leaves_meant, leaves_reached}
use Rattle.dr_expected.proofs.frames.left.Goals as goal

pub returns-then-is_finished : goal.returns-then-is_finished
returns-then-is_finished c =
    leaves_meant (run_of c.args.run.now) (run_of c.in-Ok.walk.run.now) c.args.frames.items c.deref.result.now c.meant.result (ap (λ r. run_of r) c.in-Ok.ensures) c.deref.ensures.value (sym c.is_finished.ensures ∙ c.if-is_finished.true) c.meant.ensures

pub returns-else-is_finished : goal.returns-else-is_finished
returns-else-is_finished c =
    leaves_reached (run_of c.args.run.now) (run_of c.in-Ok.walk.run.now) c.args.frames.items c.reached.result (ap (λ r. run_of r) c.in-Ok.ensures) (sym c.is_finished.ensures ∙ c.if-is_finished.false) c.reached.ensures
