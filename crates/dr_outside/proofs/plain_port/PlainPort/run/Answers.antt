use Rattle.std.proofs.Common.{refl, sym, ◌∙◌}
use Rattle.dr_outside.specs.BySide.{at}
use Rattle.dr_outside.specs.Machines.{post_after}
use Rattle.dr_outside.proofs.BySide.{at-put_same, at-put_other}
use Rattle.dr_outside.proofs.plain_port.PlainPort.run.Goals as goal

pub returns-clause-step : goal.returns-clause-step
returns-clause-step c =
    let made = post_after c.args.call.now (at c.args.side c.self.inside.post) in
    rw (← c.self.view_is, c.put-self-inside.ensures, c.after.ensures, c.at-found.ensures) (
      sym (rw c.at-found.ensures at c.is_ready_for.ensures) ∙ c.if-not-is_ready_for.false,
      record { here = at-put_same c.args.side made c.self.inside.post; there = at-put_other c.args.side made c.self.inside.post; kept = refl },
    )
