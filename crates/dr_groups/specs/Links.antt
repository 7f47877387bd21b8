-- Datastores that must be recovered together.
use Rattle.std.specs.Prelude.{ℕ, ◌≡◌, ◌≤◌, ◌<◌, ◌⊎◌, List, [], ◌∷◌, length, Contains, Some, slice_get, slice_index}
use Rattle.dr_inventory.specs.declared.estate.Machine.{Machine}
use Rattle.dr_inventory.specs.declared.estate.Datastore.{Datastore}
use Rattle.dr_inventory.specs.declared.estate.Estate.{Estate}

-- this device is one of this datastore
pub record HasDevice (estate : Estate) (datastore device : ℕ) : Type 0 where
  pub row : Datastore
  pub found : slice_get estate.datastores datastore ≡ Some row
  pub named : Contains row.devices device

-- one machine names both datastores
pub record ShareMachine (estate : Estate) (a b : ℕ) : Type 0 where
  pub machine : Machine
  pub declared : Contains estate.machines machine
  pub first : Contains machine.datastores a
  pub second : Contains machine.datastores b

-- a device of the one datastore and a device of the other have the same entry in `consistency`
pub record ShareEntry (estate : Estate) (a b : ℕ) : Type 0 where
  pub device : ℕ
  pub other : ℕ
  pub first : HasDevice estate a device
  pub second : HasDevice estate b other
  pub same : slice_index estate.consistency device ≡ slice_index estate.consistency other

-- two datastores that must be recovered together, since a machine or a consistency group spans both
abbrev pub IsLinked : Estate → ℕ → ℕ → Type 0
IsLinked estate a b = ShareMachine estate a b ⊎ ShareEntry estate a b

-- a chain of datastores that begins at `a` and ends at `b`, and after `a` has these, in which each two neighbours are linked
abbrev pub IsChain : Estate → ℕ → List ℕ → ℕ → Type 0
IsChain estate a [] b = a ≡ b
IsChain estate a (next ∷ rest) b = IsLinked estate a next × IsChain estate next rest b

-- two datastores are of one class where a chain of links leads from one to the other
pub record SameClass (estate : Estate) (a b : ℕ) : Type 0 where
  pub datastores : List ℕ
  pub chain : IsChain estate a datastores b

-- a label: the least datastore of the other's class
pub record IsLabelOf (estate : Estate) (least datastore : ℕ) : Type 0 where
  pub in_class : SameClass estate datastore least
  pub below_all : (other : ℕ) → SameClass estate datastore other → least ≤ other

-- each datastore has the least of its class as its label
pub record AreLabels (estate : Estate) (labels : List ℕ) : Type 0 where
  pub one_each : length labels ≡ length estate.datastores
  pub least : (datastore : ℕ) → datastore < length estate.datastores → IsLabelOf estate (slice_index labels datastore) datastore
