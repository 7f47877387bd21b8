use Rattle.std.proofs.Common.{◌≡◌, flat_map, take}
use Rattle.dr_inventory.proofs.refers.names_in.Given as goal

abbrev pub invariant-loop-row : goal.invariant-loop-row
invariant-loop-row g l = l.found.items ≡ flat_map g.T.Refers.names (take l.row-index l.rows)
