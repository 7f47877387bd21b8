use Rattle.dr_outside.proofs.MachineAt.{machine_at_is, machine_at-set_same, machine_at-set_other}
use Rattle.dr_testing.proofs.start_up.start_at.Goals as goal

pub returns-clause-later : goal.returns-clause-later
returns-clause-later g c =
    rw (machine_at-set_same g.P.Port.state c.args.ports.now c.args.i c.start_machine.new.port c.requires, ← machine_at_is g.P.Port.state c.args.ports.now c.args.i c.index-ports-i.result c.requires) c.start_machine.ensures.later

pub returns-clause-cause : goal.returns-clause-cause
returns-clause-cause g c =
    rw (machine_at-set_same g.P.Port.state c.args.ports.now c.args.i c.start_machine.new.port c.requires, ← machine_at_is g.P.Port.state c.args.ports.now c.args.i c.index-ports-i.result c.requires) c.start_machine.ensures.cause

pub returns-clause-told : goal.returns-clause-told
returns-clause-told g c =
    rw (← machine_at_is g.P.Port.state c.args.ports.now c.args.i c.index-ports-i.result c.requires) c.start_machine.ensures.told

pub returns-clause-elsewhere : goal.returns-clause-elsewhere
returns-clause-elsewhere g c =
    rw (machine_at-set_same g.P.Port.state c.args.ports.now c.args.i c.start_machine.new.port c.requires, ← machine_at_is g.P.Port.state c.args.ports.now c.args.i c.index-ports-i.result c.requires) c.start_machine.ensures.elsewhere

pub returns-clause-step : goal.returns-clause-step
returns-clause-step g c =
    rw (machine_at-set_same g.P.Port.state c.args.ports.now c.args.i c.start_machine.new.port c.requires, ← machine_at_is g.P.Port.state c.args.ports.now c.args.i c.index-ports-i.result c.requires) c.start_machine.ensures.step

pub returns-clause-others : goal.returns-clause-others
returns-clause-others g c = machine_at-set_other g.P.Port.state c.args.ports.now c.args.i c.start_machine.new.port
