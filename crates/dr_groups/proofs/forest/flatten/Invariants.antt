use Rattle.std.proofs.Common.{◌≡◌, ℕ, ◌<◌, get_or}
use Rattle.dr_groups.specs.Forests.{IsForest, root}
use Rattle.dr_groups.proofs.forest.flatten.Given as goal

abbrev pub invariant-loop-i : goal.invariant-loop-i
invariant-loop-i l = record {
  forest : IsForest l.parents;
  same_trees : (k : ℕ) → root l.parents k ≡ root l.initial.parents k;
  flat : (k : ℕ) → k < l.i → get_or l.parents k 0 ≡ root l.initial.parents k;
}
