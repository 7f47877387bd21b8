use Rattle.dr_testing.specs.Tests.{outside}
use Rattle.dr_desk.specs.Calls.{said_by}
use Rattle.dr_desk.proofs.AnswerLaws.{fault_tells}
use Rattle.dr_desk.proofs.CauseLaws.{declared_said, fault_said}
use Rattle.std.proofs.Common.{refl}
use Rattle.dr_desk.proofs.answering.answer_input.Goals as goal

pub answer_command-requires-clause-declared : goal.answer_command-requires-clause-declared
answer_command-requires-clause-declared g c = record { bytes = c.args.input.now; declares = c.in-Ok.ensures.declared }

pub tell_fault-requires-clause-numbers : goal.tell_fault-requires-clause-numbers
tell_fault-requires-clause-numbers g c = (fault_tells c.args.input.now c.in-Err.fault c.in-Err.ensures.fault).0

pub tell_fault-requires-clause-plain : goal.tell_fault-requires-clause-plain
tell_fault-requires-clause-plain g c = (fault_tells c.args.input.now c.in-Err.fault c.in-Err.ensures.fault).1

pub returns-in-Ok : goal.returns-in-Ok
returns-in-Ok g c =
    declared_said g.A.Array.tells g.P.Port.tells c.args.command.now c.args.input.now
    (outside g.A.Array.state g.P.Port.state c.args.array.now c.args.ports.now)
    (outside g.A.Array.state g.P.Port.state c.answer_command.new.array c.answer_command.new.ports)
    (said_by c.answer_command.result c.answer_command.new.text.items) c.in-Ok.declared c.in-Ok.ensures.declared c.answer_command.ensures

pub returns-in-Err : goal.returns-in-Err
returns-in-Err g c =
    let old = outside g.A.Array.state g.P.Port.state c.args.array.now c.args.ports.now in
    fault_said g.A.Array.tells g.P.Port.tells c.args.command.now c.args.input.now old old
    (said_by c.tell_fault.result c.tell_fault.new.text.items) c.in-Err.fault refl c.in-Err.ensures.fault c.tell_fault.ensures
