use Rattle.std.proofs.Common.{◌≡◌, ℕ, List, [], take, drop}
use Rattle.std.specs.Ordering.{nat_cmp}
use Rattle.std.specs.Cmp.Lexicographic.{slice_cmp}
use Rattle.std.specs.BTreeSet.{contains}
use Rattle.dr_inventory.specs.Names.{is_name_of, twice, nothing_within}
use Rattle.dr_inventory.specs.Maps.{map_key, map_from}
use Rattle.dr_inventory.proofs.map_key.first_map_twice.Given as goal

abbrev pub invariant-loop-map : goal.invariant-loop-map
invariant-loop-map l = record {
  same : twice map_key map_from nothing_within (take l.map-index l.maps) (drop l.map-index l.maps) ≡ twice map_key map_from nothing_within [] l.maps;
  known : (q : List ℕ) → contains (slice_cmp nat_cmp) l.keys q ≡ is_name_of map_key q (take l.map-index l.maps);
}
