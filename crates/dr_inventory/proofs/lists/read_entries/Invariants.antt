use Rattle.std.proofs.Common.{◌≡◌, drop}
use Rattle.toml.specs.View.{items_view}
use Rattle.dr_inventory.specs.Part.{outcome}
use Rattle.dr_inventory.specs.Shapes.{entries}
use Rattle.dr_inventory.proofs.Loop.{with_front}
use Rattle.dr_inventory.proofs.lists.read_entries.Given as goal

abbrev pub invariant-loop-i : goal.invariant-loop-i
invariant-loop-i g l = with_front l.rows.items (outcome l.walk.strict (entries g.T.FromValue.shape l.path l.i (items_view (drop l.i l.values)))) ≡ outcome l.walk.strict (entries g.T.FromValue.shape l.path 0 (items_view l.values))
