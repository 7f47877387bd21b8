use Rattle.std.proofs.Common.{◌≡◌, map, take}
use Rattle.dr_inventory.specs.Places.{number_in}
use Rattle.dr_inventory.specs.Numbers.{consistency_of}
use Rattle.dr_inventory.proofs.consistency.consistency_of.Given as goal

abbrev pub invariant-loop-name : goal.invariant-loop-name
invariant-loop-name l = l.entries.items ≡ map (consistency_of (number_in l.devices) l.groups) (take l.name-index l.names)
