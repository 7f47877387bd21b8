use Rattle.std.proofs.Common.{◌≡◌, drop, find, not}
use Rattle.std.specs.Ordering.{int_eq}
use Rattle.dr_plan.specs.Rows.{priority_of}
use Rattle.dr_plan.proofs.machines.first_other.Given as goal

abbrev pub invariant-loop-name : goal.invariant-loop-name
invariant-loop-name l = find (λ n. not (int_eq (priority_of l.row n) l.machine.priority)) (drop l.name-index l.machine.after) ≡ find (λ n. not (int_eq (priority_of l.row n) l.machine.priority)) l.machine.after
