use Rattle.std.proofs.Common.{◌<◌, ℕ, get_or}
use Rattle.dr_groups.specs.Marks.{IsMarked}
use Rattle.dr_groups.proofs.splits.least_inside.Given as goal

abbrev pub invariant-loop-i : goal.invariant-loop-i
invariant-loop-i l = (k : ℕ) → k < l.i → IsMarked l.marks k → ¬ IsMarked l.missed (get_or l.labels k 0)
