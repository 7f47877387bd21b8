use Rattle.std.proofs.Common.{◌≡◌, ◌+◌, drop}
use Rattle.dr_plan.specs.Lookups.{number_and_position}
use Rattle.dr_plan.proofs.positions.first_bad_position.Given as goal

abbrev pub invariant-loop-i : goal.invariant-loop-i
invariant-loop-i l = number_and_position (l.i + 1) (drop l.i l.steps) ≡ number_and_position 1 l.steps
