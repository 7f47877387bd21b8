use Rattle.std.proofs.Common.{◌≡◌, map, take, fold, min}
use Rattle.dr_inventory.specs.Places.{number_in}
use Rattle.dr_inventory.proofs.consistency.least_of.Given as goal

abbrev pub invariant-loop-name : goal.invariant-loop-name
invariant-loop-name l = l.least ≡ fold min l.initial.least (map (number_in l.devices) (take l.name-index l.others))
