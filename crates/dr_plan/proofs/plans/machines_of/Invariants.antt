use Rattle.std.proofs.Common.{◌≡◌, map, filter}
use Rattle.std.specs.List.{range_with_len}
use Rattle.dr_plan.specs.Rows.{group_numbers, is_held}
use Rattle.dr_plan.specs.Plans.{plan_machine}
use Rattle.dr_plan.proofs.plans.machines_of.Given as goal

abbrev pub invariant-loop-machine : goal.invariant-loop-machine
invariant-loop-machine l = l.machines.items ≡ map (plan_machine l.estate l.row l.depths) (filter (is_held l.members.machines (group_numbers l.estate l.row)) (range_with_len 0 l.machine))
