use Rattle.std.proofs.Common.{◌≡◌, map, string_bytes}
use Rattle.toml.specs.View.{table_view}
use Rattle.dr_inventory.specs.Shapes.{keys_of, unnamed}
use Rattle.dr_inventory.proofs.table_keys.no_others.Given as goal

abbrev pub invariant-loop-key : goal.invariant-loop-key
invariant-loop-key l =
    (goal.iterator-loop-key).can_next l.key-iterator ×
    (goal.iterator-loop-key).is_finite l.key-iterator
    × (unnamed (map (λ n. n.now) l.names) (map string_bytes l.key-iterator) ≡ unnamed (map (λ n. n.now) l.names) (keys_of (table_view l.table)))
