use Rattle.std.proofs.Common.{◌≡◌, take, filter, fold, None}
use Rattle.dr_mappings.specs.Lookups.{covers}
use Rattle.dr_mappings.specs.Searches.{nearer}
use Rattle.dr_mappings.proofs.lookups.nearest.Given as goal

abbrev pub invariant-loop-map : goal.invariant-loop-map
invariant-loop-map l = l.nearest ≡ fold nearer None (filter (covers l.side l.folder) (take l.map-index l.maps))
