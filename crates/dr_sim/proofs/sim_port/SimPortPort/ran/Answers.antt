use Rattle.std.proofs.Common.{refl, sym, ap, ◌∙◌}
use Rattle.dr_outside.specs.Commands.{code_of}
use Rattle.dr_outside.proofs.TokenLaws.{first_same}
use Rattle.dr_sim.specs.Ports.{SimPortState}
use Rattle.dr_sim.proofs.sim_port.SimPortPort.ran.Goals as goal
use Rattle.dr_sim.proofs.sim_port.SimPortPort.ran.Goals.{in-Some, in-None}

pub returns-clause-step : goal.returns-clause-step
returns-clause-step c = elim c.match-begin.branch [
  | in-Some w ↦ rw (w.result-is, c.begin.ensures.left) (record { post = refl; kept = refl })
  | in-None w ↦ rw (w.result-is, w.code_of.ensures, c.begin.ensures.left) (
    ap (λ (port : SimPortState). code_of port.codes.kept c.args.token) (c.self.view_is ∙ c.begin.ensures.left) ∙ sym (first_same c.args.self.now.codes.kept c.args.token),
    record { post = refl; kept = refl },
  )
]
