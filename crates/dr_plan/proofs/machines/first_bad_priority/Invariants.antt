use Rattle.std.proofs.Common.{◌≡◌, drop, find, not}
use Rattle.dr_plan.specs.Rows.{is_priority}
use Rattle.dr_plan.proofs.machines.first_bad_priority.Given as goal

abbrev pub invariant-loop-row : goal.invariant-loop-row
invariant-loop-row l = find (λ m. not (is_priority m.priority)) (drop l.row-index l.rows) ≡ find (λ m. not (is_priority m.priority)) l.rows
