-- Forests: lists that give each number a parent, where a root is its own parent.
use Rattle.std.specs.Prelude.{ℕ, zero, suc, ◌≤◌, List, slice_index, max, min, nat_eq, if◌then◌else◌}

-- no parent is above its child
abbrev pub IsForest : List ℕ → Type 0
IsForest parents = (k : ℕ) → slice_index parents k ≤ k

-- where so many steps from child to parent lead
unfoldable pub ancestor : List ℕ → ℕ → ℕ → ℕ
ancestor parents zero k = k
ancestor parents (suc steps) k = ancestor parents steps (slice_index parents k)

-- the root of a number's tree, which no more steps than the number itself reach
unfoldable pub root : List ℕ → ℕ → ℕ
root parents k = ancestor parents k k

-- the root that a number of this root has once the trees of two roots are joined: the lesser one
unfoldable pub joined_root : ℕ → ℕ → ℕ → ℕ
joined_root x y k = if nat_eq k (max x y) then min x y else k
