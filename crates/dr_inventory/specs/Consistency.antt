-- Consistency entries of devices.
use Rattle.std.specs.Prelude.{ℕ, ◌≡◌, ◌≤◌, ◌<◌, length, slice_index}
use Rattle.dr_inventory.specs.declared.estate.Estate.{Estate}

-- a device's entry is the least device of its consistency group
pub record HasLeastEntries (estate : Estate) : Type 0 where
  -- it is a device of that group itself
  pub in_group : (device : ℕ) → device < length estate.devices → slice_index estate.consistency (slice_index estate.consistency device) ≡ slice_index estate.consistency device
  -- no device of the group comes before it
  pub least : (device : ℕ) → device < length estate.devices → slice_index estate.consistency device ≤ device
