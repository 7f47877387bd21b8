use Rattle.std.proofs.Common.{◌≡◌, map, take}
use Rattle.dr_inventory.specs.Places.{number_in}
use Rattle.dr_inventory.proofs.numbers.rows_of.Given as goal

abbrev pub invariant-loop-entry : goal.invariant-loop-entry
invariant-loop-entry g l = l.rows.items ≡ map (g.E.Entry.numbered (number_in l.numbers)) (take l.entry-index l.entries)
