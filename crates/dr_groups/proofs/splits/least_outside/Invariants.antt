use Rattle.std.proofs.Common.{◌<◌, ℕ}
use Rattle.dr_groups.specs.Searches.{IsOutside}
use Rattle.dr_groups.proofs.splits.least_outside.Given as goal

abbrev pub invariant-loop-i : goal.invariant-loop-i
invariant-loop-i l = (k : ℕ) → k < l.i → ¬ IsOutside l.labels l.marks l.label k
