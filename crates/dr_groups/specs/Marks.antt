-- Marks: a flag for each number.
use Rattle.std.specs.Prelude.{ℕ, ◌↔◌, Bool, false, IsTrue, List, Contains, slice_index_or}
use Rattle.std.specs.List.Sorted.{IsStrictlyIncreasing}

-- this number is marked
abbrev pub IsMarked : List Bool → ℕ → Type 0
IsMarked marks k = IsTrue (slice_index_or marks k false)

-- the numbers that have a property, each once, in ascending order
pub record ListsAscending (Has : ℕ → Type 0) (numbers : List ℕ) : Type 0 where
  pub ascending : IsStrictlyIncreasing numbers
  pub exactly : (k : ℕ) → Contains numbers k ↔ Has k
