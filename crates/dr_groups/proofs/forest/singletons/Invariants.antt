use Rattle.std.proofs.Common.{◌≡◌, ℕ, ◌<◌, length, get_or}
use Rattle.dr_groups.proofs.forest.singletons.Given as goal

abbrev pub invariant-loop-i : goal.invariant-loop-i
invariant-loop-i l = record {
  one_each : length l.parents.items ≡ l.i;
  own : (k : ℕ) → k < l.i → get_or l.parents.items k 0 ≡ k;
}
