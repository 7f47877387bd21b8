use Rattle.std.proofs.Common.{refl}
use Rattle.dr_sim.specs.Ports.{state_of, next_fault, after_call}
use Rattle.dr_sim.proofs.Posting.{call_step}
use Rattle.dr_sim.proofs.sim_port.SimPort.run.Goals as goal

pub returns-clause-step : goal.returns-clause-step
returns-clause-step c =
    rw (c.run_exactly.ensures.answer, c.run_exactly.ensures.left) (call_step (next_fault c.args.self.now) c.args.call.now c.args.side (state_of c.args.self.now) (state_of (after_call c.args.call.now c.args.side c.args.self.now)) refl refl)
