-- How a simulated array opens.
use Rattle.std.specs.Prelude.{ℕ, ◌≡◌, ◌<◌, Bool, if◌then◌else◌, List, [], ◌∷◌, length, slice_get, slice_index_or, Option, Some, None}
use Rattle.std.specs.List.{list_any}
use Rattle.dr_base.specs.declared.side.Side.{Side}
use Rattle.dr_base.specs.declared.side.Side.TheVariants.{A}
use Rattle.dr_inventory.specs.declared.estate.Datastore.{Datastore}
use Rattle.dr_inventory.specs.declared.estate.GroupRow.{GroupRow}
use Rattle.dr_inventory.specs.declared.estate.Estate.{Estate}
use Rattle.dr_outside.specs.declared.pair.Content.{Content}
use Rattle.dr_outside.specs.declared.pair.Pair.{Pair}
use Rattle.dr_outside.specs.declared.pair.Link.TheVariants.{Live}
use Rattle.dr_outside.specs.BySide.{put, only}
use Rattle.dr_base.specs.Lists.{has}
use Rattle.dr_outside.specs.PairLists.{pair_at}
use Rattle.dr_sim.specs.declared.faults.ArrayFault.{ArrayFault}
use Rattle.dr_sim.specs.declared.production.Write.{Write}
use Rattle.dr_sim.specs.Arrays.{SimArrayState}
use Rattle.dr_sim.specs.Meters.{unused}

-- the devices of a datastore, and none where there is no datastore
abbrev pub devices_in : Option Datastore → List ℕ
devices_in None = []
devices_in (Some datastore) = datastore.devices

-- whether a protection group has this device
abbrev pub has_device : Estate → GroupRow → ℕ → Bool
has_device estate group i = list_any (λ d. has (devices_in (slice_get estate.datastores d)) i) group.datastores

-- the side that is protected at a device: that of the first of these groups that has it, and A where none has
abbrev pub protected_at : Estate → List GroupRow → ℕ → Side
protected_at estate [] i = A
protected_at estate (group ∷ rest) i = if has_device estate group i then group.protects else protected_at estate rest i

-- the first line, with so many writes
abbrev pub first_line : ℕ → Content
first_line writes = record { line = 0; base = 0; writes = writes }

-- a pair at first: it replicates from its source, which alone is writable, with so many writes at the source and at the target
abbrev pub opening_of : Side → ℕ × ℕ → Pair
opening_of source writes =
    record {
      source = source;
      link = Live;
      writable = only source;
      content = put source (first_line writes.0) (record { a = first_line writes.1; b = first_line writes.1 });
      snapshot = None;
    }

-- an array at first: a pair for each device, as its protection group has it, with what is listed for later calls
pub record IsOpening (estate : Estate) (writes : List (ℕ × ℕ)) (to_fail : List ArrayFault) (to_write : List Write) (array : SimArrayState) : Type 0 where
  pub count : length array.pairs ≡ length estate.devices
  pub pairs : (i : ℕ) → i < length estate.devices → pair_at array.pairs i ≡ opening_of (protected_at estate estate.groups i) (slice_index_or writes i (0, 0))
  pub entries : array.entries ≡ estate.consistency
  pub meter : array.meter ≡ unused
  pub faults : array.faults ≡ to_fail
  pub writer : array.writer ≡ to_write
  pub counts : array.counts ≡ record { a = 0; b = 0 }
