use Rattle.std.proofs.Common.{◌≡◌, ℕ, List, take}
use Rattle.std.specs.Ordering.{nat_cmp}
use Rattle.std.specs.Cmp.Lexicographic.{slice_cmp}
use Rattle.std.specs.BTreeMap.{get}
use Rattle.dr_inventory.specs.Places.{number_in}
use Rattle.dr_inventory.specs.Numbers.{least_in}
use Rattle.dr_inventory.proofs.consistency.least_devices.Given as goal

abbrev pub invariant-loop-group : goal.invariant-loop-group
invariant-loop-group l = (q : List ℕ) → get (slice_cmp nat_cmp) l.least_devices q ≡ least_in (number_in l.devices) (take l.group-index l.groups) q
