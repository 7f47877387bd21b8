use Rattle.std.proofs.Common.{◌≡◌, drop}
use Rattle.std.specs.List.{find}
use Rattle.dr_mappings.specs.Lookups.{leads_from}
use Rattle.dr_mappings.proofs.lookups.mapped.Given as goal

abbrev pub invariant-loop-map : goal.invariant-loop-map
invariant-loop-map l = find (leads_from l.kind l.side l.name) l.maps ≡ find (leads_from l.kind l.side l.name) (drop l.map-index l.maps)
