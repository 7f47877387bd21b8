-- What the searches for split classes and for shared datastores note on their way.
use Rattle.std.specs.Prelude.{ℕ, ◌≡◌, ◌<◌, ◌↔◌, Bool, List, length, Contains, Some, slice_get, slice_index}
use Rattle.dr_inventory.specs.declared.estate.Machine.{Machine}
use Rattle.dr_inventory.specs.declared.estate.Estate.{Estate}
use Rattle.dr_groups.specs.Links.{HasDevice}
use Rattle.dr_groups.specs.Marks.{IsMarked}
use Rattle.dr_groups.specs.Groups.{IsInGroup}

-- exactly the datastores of the group are marked
pub record MarksGroup (estate : Estate) (group : ℕ) (marks : List Bool) : Type 0 where
  pub one_each : length marks ≡ length estate.datastores
  pub exactly : (datastore : ℕ) → IsMarked marks datastore ↔ IsInGroup estate group datastore

-- a datastore with this label isn't marked
pub record IsOutside (labels : List ℕ) (marks : List Bool) (label datastore : ℕ) : Type 0 where
  pub within : datastore < length labels
  pub labelled : slice_index labels datastore ≡ label
  pub unmarked : ¬ IsMarked marks datastore

-- some datastore with this label isn't marked
pub record HasOutside (labels : List ℕ) (marks : List Bool) (label : ℕ) : Type 0 where
  pub datastore : ℕ
  pub outside : IsOutside labels marks label datastore

-- this datastore is marked, and one with the same label isn't
pub record IsInside (labels : List ℕ) (marks : List Bool) (datastore : ℕ) : Type 0 where
  pub marked : IsMarked marks datastore
  pub other : HasOutside labels marks (slice_index labels datastore)

-- this device is one of one of these datastores
pub record IsDeviceAmong (estate : Estate) (datastores : List ℕ) (device : ℕ) : Type 0 where
  pub datastore : ℕ
  pub listed : Contains datastores datastore
  pub named : HasDevice estate datastore device

-- this machine is on at least one datastore, and all of them are marked
pub record IsMachineWithin (estate : Estate) (marks : List Bool) (machine : ℕ) : Type 0 where
  pub row : Machine
  pub found : slice_get estate.machines machine ≡ Some row
  pub on_some : 0 < length row.datastores
  pub marked : (datastore : ℕ) → Contains row.datastores datastore → IsMarked marks datastore

-- one of so many first groups has the datastore
pub record IsInGroupBelow (estate : Estate) (count datastore : ℕ) : Type 0 where
  pub group : ℕ
  pub below : group < count
  pub named : IsInGroup estate group datastore

-- two of so many first groups have the datastore
pub record IsSharedBelow (estate : Estate) (count datastore : ℕ) : Type 0 where
  pub first : ℕ
  pub second : ℕ
  pub in_order : first < second
  pub below : second < count
  pub has_first : IsInGroup estate first datastore
  pub has_second : IsInGroup estate second datastore

-- exactly the datastores of so many first groups are marked as seen, and those that two of these have as shared
pub record MarksBelow (estate : Estate) (count : ℕ) (seen shared : List Bool) : Type 0 where
  pub one_seen : length seen ≡ length estate.datastores
  pub one_shared : length shared ≡ length estate.datastores
  pub in_one : (datastore : ℕ) → IsMarked seen datastore ↔ IsInGroupBelow estate count datastore
  pub in_two : (datastore : ℕ) → IsMarked shared datastore ↔ IsSharedBelow estate count datastore
