use Rattle.std.proofs.Common.{◌≡◌, ◌<◌, ℕ, get_or}
use Rattle.dr_groups.specs.Forests.{root}
use Rattle.dr_groups.specs.Trees.{IsWithinClasses, KeepsTogether}
use Rattle.dr_groups.proofs.labels.join_machine.Given as goal

abbrev pub invariant-loop-datastore : goal.invariant-loop-datastore
invariant-loop-datastore l = record {
  within : IsWithinClasses l.estate l.parents;
  kept : KeepsTogether l.initial.parents l.parents;
  joined : (k : ℕ) → k < l.datastore-index → root l.parents (get_or l.datastores k 0) ≡ root l.parents (get_or l.datastores 0 0);
}
