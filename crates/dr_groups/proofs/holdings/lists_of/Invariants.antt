use Rattle.std.proofs.Common.{◌≡◌, ℕ, List, length, Some, slice_get}
use Rattle.dr_groups.specs.Groups.{IsPairOf, IsMachineOf}
use Rattle.dr_groups.specs.Marks.{ListsAscending}
use Rattle.dr_groups.proofs.holdings.lists_of.Given as goal

abbrev pub invariant-loop-group : goal.invariant-loop-group
invariant-loop-group l = record {
  pairs_each : length l.pairs.items ≡ l.group;
  machines_each : length l.machines.items ≡ l.group;
  pairs : (k : ℕ) (ns : List ℕ) → slice_get l.pairs.items k ≡ Some ns → ListsAscending (IsPairOf l.estate k) ns;
  machines : (k : ℕ) (ns : List ℕ) → slice_get l.machines.items k ≡ Some ns → ListsAscending (IsMachineOf l.estate k) ns;
}
