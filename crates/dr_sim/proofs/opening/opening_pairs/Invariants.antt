use Rattle.std.proofs.Common.{◌≡◌, ℕ, ◌<◌, length, get_or}
use Rattle.dr_outside.specs.PairLists.{pair_at}
use Rattle.dr_sim.specs.Openings.{protected_at, opening_of}
use Rattle.dr_sim.proofs.opening.opening_pairs.Given as goal

abbrev pub invariant-loop-i : goal.invariant-loop-i
invariant-loop-i l = record {
  count : length l.pairs.items ≡ l.i;
  each : (i : ℕ) → i < l.i → pair_at l.pairs.items i ≡ opening_of (protected_at l.estate l.estate.groups i) (get_or l.writes i (0, 0));
}
