use Rattle.std.proofs.Common.{◌≡◌, map, take}
use Rattle.dr_inventory.specs.Places.{number_in}
use Rattle.dr_inventory.proofs.named.numbers_of.Given as goal

abbrev pub invariant-loop-name : goal.invariant-loop-name
invariant-loop-name l = l.found.items ≡ map (number_in l.numbers) (take l.name-index l.names)
