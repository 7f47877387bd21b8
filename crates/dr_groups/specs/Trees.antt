-- A forest over the datastores of an estate, whose trees grow into its classes.
use Rattle.std.specs.Prelude.{ℕ, ◌≡◌, ◌<◌, List, length, Contains, slice_index}
use Rattle.dr_inventory.specs.declared.estate.Estate.{Estate}
use Rattle.dr_groups.specs.Forests.{IsForest, root}
use Rattle.dr_groups.specs.Links.{HasDevice, SameClass}

-- a forest of the datastores of an estate, in which each tree lies within one class
pub record IsWithinClasses (estate : Estate) (parents : List ℕ) : Type 0 where
  pub one_each : length parents ≡ length estate.datastores
  pub forest : IsForest parents
  pub linked : (datastore : ℕ) → datastore < length estate.datastores → SameClass estate datastore (root parents datastore)

-- what was in one tree is in one tree still
pub record KeepsTogether (old new : List ℕ) : Type 0 where
  pub together : (a b : ℕ) → root old a ≡ root old b → root new a ≡ root new b

-- these numbers are all in one tree
abbrev pub AreInOneTree : List ℕ → List ℕ → Type 0
AreInOneTree parents numbers = (a b : ℕ) → Contains numbers a → Contains numbers b → root parents a ≡ root parents b

-- a device of this datastore has this entry in `consistency`
pub record HasEntry (estate : Estate) (datastore entry : ℕ) : Type 0 where
  pub device : ℕ
  pub named : HasDevice estate datastore device
  pub is : slice_index estate.consistency device ≡ entry

-- the leader of an entry has it too
abbrev pub IsLed : Estate → List ℕ → ℕ → Type 0
IsLed estate leaders entry = HasEntry estate (slice_index leaders entry) entry

-- each entry that a datastore has is led
pub record AreLeaders (estate : Estate) (leaders : List ℕ) : Type 0 where
  pub one_each : length leaders ≡ length estate.devices
  pub led : (datastore entry : ℕ) → HasEntry estate datastore entry → IsLed estate leaders entry
