use Rattle.std.proofs.Common.{refl}
use Rattle.dr_sim.specs.Ports.{state_of, next_fault, after_command}
use Rattle.dr_sim.proofs.Commanding.{port_command}
use Rattle.dr_sim.proofs.sim_port.SimPortPort.command.Goals as goal

pub returns-clause-step : goal.returns-clause-step
returns-clause-step c =
    let port = c.args.self.now in
    rw (c.command_exactly.ensures.answer, c.command_exactly.ensures.left)
    (port_command (next_fault port) c.args.side c.args.token c.args.name port.codes (state_of port) (state_of (after_command c.args.side c.args.token c.args.name port)) refl refl refl)
