use Rattle.std.proofs.Common.{◌≡◌, ◌<◌, ℕ, Some, slice_get}
use Rattle.dr_inventory.specs.declared.estate.Machine.{Machine}
use Rattle.dr_groups.specs.Trees.{IsWithinClasses, AreInOneTree}
use Rattle.dr_groups.proofs.labels.join_machines.Given as goal

abbrev pub invariant-loop-machine : goal.invariant-loop-machine
invariant-loop-machine l = record {
  within : IsWithinClasses l.estate l.parents;
  joined : (k : ℕ) → k < l.machine → (row : Machine) → slice_get l.estate.machines k ≡ Some row → AreInOneTree l.parents row.datastores;
}
