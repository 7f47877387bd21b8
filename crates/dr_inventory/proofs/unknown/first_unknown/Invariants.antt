use Rattle.std.proofs.Common.{◌≡◌, drop, find, flat_map, not, is_some}
use Rattle.std.specs.Ordering.{nat_cmp}
use Rattle.std.specs.Cmp.Lexicographic.{slice_cmp}
use Rattle.std.specs.BTreeMap.{get}
use Rattle.dr_inventory.proofs.unknown.first_unknown.Given as goal

abbrev pub invariant-loop-row : goal.invariant-loop-row
invariant-loop-row g l = find (λ n. not (is_some (get (slice_cmp nat_cmp) l.places n))) (flat_map g.T.Refers.names (drop l.row-index l.rows)) ≡ find (λ n. not (is_some (get (slice_cmp nat_cmp) l.places n))) (flat_map g.T.Refers.names l.rows)
