use Rattle.std.proofs.Common.{◌≡◌, drop, find, not}
use Rattle.dr_plan.specs.Lookups.{is_marked_name}
use Rattle.dr_plan.proofs.machines.first_unplanned.Given as goal

abbrev pub invariant-loop-name : goal.invariant-loop-name
invariant-loop-name l = find (λ n. not (is_marked_name l.machines l.marks n)) (drop l.name-index l.names) ≡ find (λ n. not (is_marked_name l.machines l.marks n)) l.names
