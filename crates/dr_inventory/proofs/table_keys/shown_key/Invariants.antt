use Rattle.std.proofs.Common.{◌≡◌, map, take}
use Rattle.dr_inventory.specs.Shapes.{shown_byte}
use Rattle.dr_inventory.proofs.table_keys.shown_key.Given as goal

abbrev pub invariant-loop-b : goal.invariant-loop-b
invariant-loop-b l = l.text.items ≡ map shown_byte (take l.b-index l.first)
