use Rattle.std.proofs.Common.{◌<◌, ◌⊎◌, ℕ, get_or}
use Rattle.dr_groups.specs.Marks.{IsMarked}
use Rattle.dr_groups.specs.Searches.{HasOutside}
use Rattle.dr_groups.proofs.splits.mark_outside.Given as goal

abbrev pub invariant-loop-i : goal.invariant-loop-i
invariant-loop-i l = record {
  marked : (k : ℕ) → k < l.i → ¬ IsMarked l.marks k → IsMarked l.missed (get_or l.labels k 0);
  no_others : (label : ℕ) → IsMarked l.missed label → IsMarked l.initial.missed label ⊎ HasOutside l.labels l.marks label;
}
