use Rattle.std.proofs.Common.{◌≡◌, false, map, take}
use Rattle.dr_inventory.specs.Shapes.{is_named}
use Rattle.dr_inventory.proofs.table_keys.is_named.Given as goal

abbrev pub invariant-loop-name : goal.invariant-loop-name
invariant-loop-name l = is_named (take l.name-index (map (λ n. n.now) l.names)) l.key ≡ false
