use Rattle.std.proofs.Common.{◌∙◌, ◌<◌, length, ap, arith}
use Rattle.dr_plan.specs.Rows.{group_numbers, is_held}
use Rattle.dr_plan.specs.Plans.{plan_machine}
use Rattle.dr_plan.proofs.LookupLaws.{entry_kept, entry_left, mark_read}
use Rattle.dr_plan.proofs.plans.machines_of.Goals as goal
use Rattle.dr_plan.proofs.plans.machines_of.Goals.{then-index+in_ok-machine_of+in_ok-push, else-index}

pub loop-machine-preserved : goal.loop-machine-preserved
loop-machine-preserved c =
    let e = c.args.estate.now in
    let i = c.loop-machine.machine in
    let lists = c.args.members.now.machines in
    let groups = group_numbers e c.args.row.now in
    let f = plan_machine e c.args.row.now c.args.depths.now in
    let old = c.loop-machine.machines.items in
    let within : i < length e.machines = omega (arith, c.loop-machine-test.true, ap length c.as_slice-machine-end.ensures) in
    elim c.if-index.branch [
      | then-index+in_ok-machine_of+in_ok-push w ↦ entry_kept f (is_held lists groups) i old c.if-index.machines.items _ c.loop-machine.invariant
          (mark_read lists groups (length e.machines) c.args.found.now.marks.items i c.index.result.now _ c.requires.found.marks within c.index.ensures w.if-index.true)
          (ap (λ v. v.items) w.machines-is ∙ w.in_ok-push.ensures.items) w.in_ok-machine_of.ensures
      | else-index w ↦ entry_left f (is_held lists groups) i old c.if-index.machines.items c.loop-machine.invariant
          (mark_read lists groups (length e.machines) c.args.found.now.marks.items i c.index.result.now _ c.requires.found.marks within c.index.ensures w.if-index.false)
          (ap (λ v. v.items) w.machines-is)
    ]
