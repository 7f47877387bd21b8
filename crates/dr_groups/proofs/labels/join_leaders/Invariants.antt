use Rattle.std.proofs.Common.{◌≡◌, ◌<◌, ℕ, get_or}
use Rattle.dr_groups.specs.Forests.{root}
use Rattle.dr_groups.specs.Trees.{IsWithinClasses, KeepsTogether}
use Rattle.dr_groups.proofs.labels.join_leaders.Given as goal

abbrev pub invariant-loop-device : goal.invariant-loop-device
invariant-loop-device l = record {
  within : IsWithinClasses l.estate l.parents;
  kept : KeepsTogether l.initial.parents l.parents;
  joined : (k : ℕ) → k < l.device-index → root l.parents l.datastore ≡ root l.parents (get_or l.leaders (get_or l.consistency (get_or l.devices k 0) 0) 0);
}
