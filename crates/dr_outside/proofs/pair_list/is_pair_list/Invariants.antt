use Rattle.std.proofs.Common.{ℕ, ◌+◌, ◌<◌, get_or}
use Rattle.dr_outside.proofs.pair_list.is_pair_list.Given as goal

abbrev pub invariant-loop-i : goal.invariant-loop-i
invariant-loop-i l = record {
  below : (j : ℕ) → j < l.i → get_or l.list j 0 < l.count;
  ascending : (j : ℕ) → j + 1 < l.i → get_or l.list j 0 < get_or l.list (j + 1) 0;
}
