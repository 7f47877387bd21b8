use Rattle.std.proofs.Common.{◌<◌, ◌⊎◌, ℕ, get_or}
use Rattle.dr_groups.specs.Links.{HasDevice}
use Rattle.dr_groups.specs.Marks.{IsMarked}
use Rattle.dr_groups.specs.Searches.{IsDeviceAmong}
use Rattle.dr_groups.proofs.holdings.mark_devices.Given as goal

abbrev pub invariant-loop-datastore : goal.invariant-loop-datastore
invariant-loop-datastore l = record {
  marked : (k : ℕ) → k < l.datastore-index → (device : ℕ) → HasDevice l.estate (get_or l.datastores k 0) device → IsMarked l.marks device;
  no_others : (device : ℕ) → IsMarked l.marks device → IsMarked l.initial.marks device ⊎ IsDeviceAmong l.estate l.datastores device;
}
