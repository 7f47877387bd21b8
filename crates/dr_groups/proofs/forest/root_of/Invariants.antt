use Rattle.std.proofs.Common.{◌≡◌, ℕ, ◌<◌, length}
use Rattle.dr_groups.specs.Forests.{IsForest, root}
use Rattle.dr_groups.proofs.forest.root_of.Given as goal

abbrev pub invariant-loop-parents : goal.invariant-loop-parents
invariant-loop-parents l = record {
  within : l.at < length l.parents;
  forest : IsForest l.parents;
  here : root l.initial.parents l.at ≡ root l.initial.parents l.number;
  same_trees : (k : ℕ) → root l.parents k ≡ root l.initial.parents k;
}

abbrev pub decreases-loop-parents : goal.decreases-loop-parents
decreases-loop-parents l = l.at
