-- Consistency groups of an array, and those of an estate.
use Rattle.std.specs.Prelude.{ℕ, ◌≡◌, slice_index}
use Rattle.dr_inventory.specs.declared.estate.Estate.{Estate}
use Rattle.dr_groups.specs.Groups.{IsPairOf}

-- two pairs are of one consistency group
abbrev pub SameConsistency : Estate → ℕ → ℕ → Type 0
SameConsistency estate p q = slice_index estate.consistency p ≡ slice_index estate.consistency q

-- an array with these consistency groups, each by its least pair, has those of the estate: pairs of one protection group that the estate puts into one consistency group are of one group in the array
pub record HasConsistencyGroups (estate : Estate) (least_pair : ℕ → ℕ) : Type 0 where
  pub together : (group p q : ℕ) → IsPairOf estate group p → IsPairOf estate group q → SameConsistency estate p q → least_pair p ≡ least_pair q
