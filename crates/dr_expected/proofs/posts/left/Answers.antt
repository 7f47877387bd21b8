use Rattle.std.proofs.Common.{ap, sym, ◌∙◌}
use Rattle.dr_replay.specs.Values.{run_of}
use Rattle.dr_expected.specs.Standings.{placed_value}
use Rattle.dr_expected.proofs.PostLaws.{leaves_meant, leaves_reached}
use Rattle.dr_expected.proofs.posts.left.Goals as goal

pub returns-then-is_finished : goal.returns-then-is_finished
returns-then-is_finished c =
    leaves_meant (run_of c.args.run.now) (run_of c.in-Ok.walk.run.now) c.args.machine c.args.side (placed_value c.args.wanted.now) c.args.list.items c.deref.result.now c.meant.result (ap (λ r. run_of r) c.in-Ok.ensures) c.deref.ensures.value (sym c.is_finished.ensures ∙ c.if-is_finished.true) c.meant.ensures

pub returns-else-is_finished : goal.returns-else-is_finished
returns-else-is_finished c =
    leaves_reached (run_of c.args.run.now) (run_of c.in-Ok.walk.run.now) c.args.machine c.args.side (placed_value c.args.wanted.now) c.args.list.items c.reached.result (ap (λ r. run_of r) c.in-Ok.ensures) (sym c.is_finished.ensures ∙ c.if-is_finished.false) c.reached.ensures
