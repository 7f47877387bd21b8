use Rattle.std.proofs.Common.{◌<◌, ℕ, get_or}
use Rattle.dr_groups.specs.Marks.{IsMarked}
use Rattle.dr_groups.proofs.marks.all_marked.Given as goal

abbrev pub invariant-loop-number : goal.invariant-loop-number
invariant-loop-number l = (k : ℕ) → k < l.number-index → IsMarked l.marks (get_or l.numbers k 0)
