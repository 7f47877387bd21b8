use Rattle.std.proofs.Common.{◌≡◌, ◌<◌, ℕ, get_or}
use Rattle.dr_groups.specs.Forests.{root}
use Rattle.dr_groups.specs.Trees.{IsWithinClasses, KeepsTogether, HasEntry}
use Rattle.dr_groups.proofs.labels.join_entries.Given as goal

abbrev pub invariant-loop-datastore : goal.invariant-loop-datastore
invariant-loop-datastore l = record {
  within : IsWithinClasses l.estate l.parents;
  kept : KeepsTogether l.initial.parents l.parents;
  joined : (d entry : ℕ) → d < l.datastore → HasEntry l.estate d entry → root l.parents d ≡ root l.parents (get_or l.leaders entry 0);
}
