use Rattle.std.proofs.Common.{◌≡◌, drop, find, flat_map, not}
use Rattle.dr_plan.specs.Faults.{named_machines}
use Rattle.dr_plan.specs.Lookups.{is_marked_name}
use Rattle.dr_plan.proofs.machines.first_unknown.Given as goal

abbrev pub invariant-loop-row : goal.invariant-loop-row
invariant-loop-row l = find (λ n. not (is_marked_name l.machines l.marks n)) (flat_map named_machines (drop l.row-index l.rows)) ≡ find (λ n. not (is_marked_name l.machines l.marks n)) (flat_map named_machines l.rows)
