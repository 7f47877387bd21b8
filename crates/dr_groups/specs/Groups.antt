-- What protection groups hold, and what is wrong with them.
use Rattle.std.specs.Prelude.{ℕ, ◌≡◌, ◌<◌, ◌≤◌, List, length, Contains, Some, slice_get}
use Rattle.dr_base.specs.declared.group_fault.GroupFault.{GroupFault}
use Rattle.dr_base.specs.declared.group_fault.GroupFault.TheVariants.{NotClosed, InTwo, NoMemory}
use Rattle.dr_inventory.specs.declared.estate.Machine.{Machine}
use Rattle.dr_inventory.specs.declared.estate.GroupRow.{GroupRow}
use Rattle.dr_inventory.specs.declared.estate.Estate.{Estate}
use Rattle.dr_inventory.specs.declared.members.Members.{Members}
use Rattle.dr_groups.specs.Links.{HasDevice, SameClass}
use Rattle.dr_groups.specs.Marks.{ListsAscending}

-- this datastore is one of this protection group
pub record IsInGroup (estate : Estate) (group datastore : ℕ) : Type 0 where
  pub row : GroupRow
  pub found : slice_get estate.groups group ≡ Some row
  pub named : Contains row.datastores datastore

-- the group has the first datastore, and not the second one of the same class
pub record Splits (estate : Estate) (group inside outside : ℕ) : Type 0 where
  pub in_group : IsInGroup estate group inside
  pub same_class : SameClass estate inside outside
  pub left_out : ¬ IsInGroup estate group outside

-- the group holds whole classes
pub record IsClosed (estate : Estate) (group : ℕ) : Type 0 where
  pub whole : (inside outside : ℕ) → IsInGroup estate group inside → SameClass estate inside outside → IsInGroup estate group outside

-- the least datastore of the group whose class the group splits, and the least datastore of that class that it lacks
pub record IsLeastSplit (estate : Estate) (group inside outside : ℕ) : Type 0 where
  pub splits : Splits estate group inside outside
  pub least_inside : (a b : ℕ) → Splits estate group a b → inside ≤ a
  pub least_outside : (b : ℕ) → Splits estate group inside b → outside ≤ b

-- the first group that splits a class, with the least such datastores
pub record IsFirstSplit (estate : Estate) (group inside outside : ℕ) : Type 0 where
  pub least : IsLeastSplit estate group inside outside
  pub first_group : (earlier : ℕ) → earlier < group → IsClosed estate earlier

-- the datastore is in at most one group
pub record IsInOneAtMost (estate : Estate) (datastore : ℕ) : Type 0 where
  pub same : (g h : ℕ) → IsInGroup estate g datastore → IsInGroup estate h datastore → g ≡ h

-- the datastore is in two groups, and these are the two least that have it
pub record IsSharedBy (estate : Estate) (datastore g h : ℕ) : Type 0 where
  pub first : IsInGroup estate g datastore
  pub second : IsInGroup estate h datastore
  pub in_order : g < h
  pub least : (other : ℕ) → IsInGroup estate other datastore → g ≤ other
  pub next : (other : ℕ) → g < other → IsInGroup estate other datastore → h ≤ other

-- the least datastore that is in two groups, and the two least groups that have it
pub record IsFirstShared (estate : Estate) (datastore g h : ℕ) : Type 0 where
  pub shared : IsSharedBy estate datastore g h
  pub first_datastore : (earlier : ℕ) → earlier < datastore → IsInOneAtMost estate earlier

-- each group holds whole classes
abbrev pub AreClosed : Estate → Type 0
AreClosed estate = (group : ℕ) → IsClosed estate group

-- nothing is wrong with the groups: they hold whole classes, and no datastore is in two of them
pub record Passes (estate : Estate) : Type 0 where
  pub closed : AreClosed estate
  pub apart : (datastore : ℕ) → IsInOneAtMost estate datastore

-- each group holds whole classes, and this is the first datastore in two groups
pub record IsFirstInTwo (estate : Estate) (datastore g h : ℕ) : Type 0 where
  pub closed : AreClosed estate
  pub shared : IsFirstShared estate datastore g h

-- what is wrong with the groups, first of all: want of memory says nothing of them
abbrev pub IsFirstFault : Estate → GroupFault → Type 0
IsFirstFault estate (NotClosed group inside outside) = IsFirstSplit estate group inside outside
IsFirstFault estate (InTwo datastore g h) = IsFirstInTwo estate datastore g h
IsFirstFault estate NoMemory = Unit {0}

-- this pair is a device of a datastore of the group
pub record IsPairOf (estate : Estate) (group pair : ℕ) : Type 0 where
  pub datastore : ℕ
  pub in_group : IsInGroup estate group datastore
  pub named : HasDevice estate datastore pair

-- this machine is on at least one datastore, and all of them are in the group
pub record IsMachineOf (estate : Estate) (group machine : ℕ) : Type 0 where
  pub row : Machine
  pub found : slice_get estate.machines machine ≡ Some row
  pub on_some : 0 < length row.datastores
  pub within : (datastore : ℕ) → Contains row.datastores datastore → IsInGroup estate group datastore

-- for each group, ascending, what belongs to it
pub record ListsByGroup (estate : Estate) (Belongs : ℕ → ℕ → Type 0) (lists : List (List ℕ)) : Type 0 where
  pub one_each : length lists ≡ length estate.groups
  pub each : (group : ℕ) (numbers : List ℕ) → slice_get lists group ≡ Some numbers → ListsAscending (Belongs group) numbers

-- exactly the pairs and the machines of each group
pub record AreMembersOf (estate : Estate) (members : Members) : Type 0 where
  pub pairs : ListsByGroup estate (IsPairOf estate) members.pairs
  pub machines : ListsByGroup estate (IsMachineOf estate) members.machines

-- the machine is on this datastore
pub record IsOnDatastore (estate : Estate) (machine datastore : ℕ) : Type 0 where
  pub row : Machine
  pub found : slice_get estate.machines machine ≡ Some row
  pub named : Contains row.datastores datastore
