use Rattle.std.proofs.Common.{◌<◌, ◌⊎◌, ℕ, get_or}
use Rattle.std.specs.List.{Contains}
use Rattle.dr_groups.specs.Marks.{IsMarked}
use Rattle.dr_groups.proofs.marks.mark_again.Given as goal

abbrev pub invariant-loop-number : goal.invariant-loop-number
invariant-loop-number l = record {
  marked : (k : ℕ) → k < l.number-index → IsMarked l.others (get_or l.numbers k 0) → IsMarked l.marks (get_or l.numbers k 0);
  kept : (k : ℕ) → IsMarked l.initial.marks k → IsMarked l.marks k;
  no_others : (k : ℕ) → IsMarked l.marks k → IsMarked l.initial.marks k ⊎ (Contains l.numbers k × IsMarked l.others k);
}
