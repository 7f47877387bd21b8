use Rattle.std.proofs.Common.{subst}
use Rattle.dr_outside.specs.Machines.{machine_at}
use Rattle.dr_plan.specs.Orders.{AreWaves}
use Rattle.dr_testing.specs.Tests.{outside}
use Rattle.dr_testing.proofs.PlanLaws.{waves_startable}
use Rattle.dr_testing.proofs.TestLaws.{placeholders_before, machines_kept, machines_done, order_after, machine_cause}
use Rattle.dr_testing.proofs.test_run.run_test.Goals as goal

pub start_all-requires-clause-startable : goal.start_all-requires-clause-startable
start_all-requires-clause-startable g c = waves_startable c.args.plan.now c.requires.testable.ordered c.args.waves.now c.requires.in_order c.args.estate.now c.requires.testable

pub returns-in-Ok-clause-cause : goal.returns-in-Ok-clause-cause
returns-in-Ok-clause-cause g c =
    let e = c.start_all.ensures in
    rw c.answer_of.ensures
    (machine_cause g.A.Array.tells g.P.Port.tells c.args.estate.now c.args.plan.now c.requires.testable (subst (AreWaves c.args.plan.now) c.requires.waves c.requires.in_order)
    (outside g.A.Array.state g.P.Port.state c.args.array.now c.args.ports.now) (outside g.A.Array.state g.P.Port.state c.snapshot_pairs.new.array c.start_all.new.ports) c.requires.slots.machines c.start_all.result
    (rw c.requires.waves at e.cause) (rw c.requires.waves at e.told) (rw c.requires.waves at e.step) (rw c.as_slice.ensures at c.in-Ok.ensures.told))

pub returns-in-Ok-clause-machines_done : goal.returns-in-Ok-clause-machines_done
returns-in-Ok-clause-machines_done g c = λ tells opening.
    let e = c.start_all.ensures in
    rw c.answer_of.ensures
    (machines_done c.args.estate.now c.args.plan.now c.requires.testable c.args.waves.now c.requires.in_order _ c.requires.slots.machines (machine_at g.P.Port.state c.args.ports.now) (machine_at g.P.Port.state c.start_all.new.ports) c.start_all.result (e.elsewhere tells) e.others
    (e.step tells (placeholders_before c.args.estate.now c.args.plan.now c.requires.testable c.args.waves.now c.requires.in_order _ c.requires.slots.machines (machine_at g.P.Port.state c.args.ports.now) (machine_at g.P.Port.state c.start_all.new.ports) opening)))

pub returns-in-Ok-clause-machines_kept : goal.returns-in-Ok-clause-machines_kept
returns-in-Ok-clause-machines_kept g c = λ tells.
    let e = c.start_all.ensures in
    machines_kept c.args.estate.now c.args.plan.now c.requires.testable c.args.waves.now c.requires.in_order _ c.requires.slots.machines (machine_at g.P.Port.state c.args.ports.now) (machine_at g.P.Port.state c.start_all.new.ports) (e.elsewhere tells) e.others

pub returns-in-Ok-clause-order : goal.returns-in-Ok-clause-order
returns-in-Ok-clause-order g c = λ tells opening.
    let e = c.start_all.ensures in
    order_after c.args.estate.now c.args.plan.now c.requires.testable c.args.waves.now c.requires.in_order _ c.requires.slots.machines (machine_at g.P.Port.state c.args.ports.now) (machine_at g.P.Port.state c.start_all.new.ports) opening c.start_all.result e.cause
    (e.step tells (placeholders_before c.args.estate.now c.args.plan.now c.requires.testable c.args.waves.now c.requires.in_order _ c.requires.slots.machines (machine_at g.P.Port.state c.args.ports.now) (machine_at g.P.Port.state c.start_all.new.ports) opening))
