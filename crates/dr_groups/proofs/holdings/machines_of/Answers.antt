use Rattle.std.proofs.Common.{◌∙◌, Bool, List, length, ap, sym, subst, arith}
use Rattle.std.proofs.lemmas.Option.{slice_get_within}
use Rattle.dr_groups.specs.Groups.{IsMachineOf}
use Rattle.dr_groups.specs.Searches.{IsMachineWithin}
use Rattle.dr_groups.proofs.MarkLaws.{lists_below-push, lists_below-skip, lists_below-all, true_is_not_false}
use Rattle.dr_groups.proofs.HoldingLaws.{lists_same, machines_within}
use Rattle.dr_groups.proofs.holdings.machines_of.Goals as goal
use Rattle.dr_groups.proofs.holdings.machines_of.Goals.{then-is_within+in_ok-push, else-is_within}

pub loop-machine-preserved : goal.loop-machine-preserved
loop-machine-preserved c =
    let e = c.args.estate.now in
    let marks = c.in_ok-marks.marks.items in
    let m = c.loop-machine.machine in
    let P : List Bool → Type 0 = λ xs. IsMachineWithin e xs m in
    elim c.if-is_within.branch [
      | then-is_within+in_ok-push w ↦ lists_below-push (IsMachineWithin e marks) m c.loop-machine.machines.items c.if-is_within.machines.items c.loop-machine.invariant
          (ap (λ v. v.items) w.machines-is ∙ w.in_ok-push.ensures.items) (subst P c.deref.ensures.value (c.is_within.ensures.0 w.if-is_within.true))
      | else-is_within w ↦ lists_below-skip (IsMachineWithin e marks) m c.loop-machine.machines.items c.if-is_within.machines.items c.loop-machine.invariant
          (ap (λ v. v.items) w.machines-is) (λ within. true_is_not_false (sym (c.is_within.ensures.1 (subst P (sym c.deref.ensures.value) within)) ∙ w.if-is_within.false))
    ]

pub returns : goal.returns
returns c =
    let e = c.args.estate.now in
    let marks = c.in_ok-marks.marks.items in
    lists_same (IsMachineWithin e marks) (IsMachineOf e c.args.group) c.loop-machine.machines.items (machines_within e c.args.group marks c.in_ok-marks.ensures)
    (lists_below-all (IsMachineWithin e marks) c.loop-machine.machine c.loop-machine.machines.items c.loop-machine.invariant
    (λ m within. omega (arith, slice_get_within e.machines m within.row within.found, ap length c.as_slice-machine-end.ensures)))
