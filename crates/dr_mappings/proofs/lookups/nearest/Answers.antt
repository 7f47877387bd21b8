use Rattle.std.proofs.Common.{◌∙◌, None, ap, filter, fold}
use Rattle.std.proofs.lemmas.List.{take_all}
use Rattle.dr_mappings.specs.Lookups.{covers}
use Rattle.dr_mappings.specs.Searches.{nearer}
use Rattle.dr_mappings.proofs.NearestLaws.{fold_all}
use Rattle.dr_mappings.proofs.lookups.nearest.Goals as goal

pub returns : goal.returns
returns c =
    let test = covers c.args.side c.args.folder.now in
    c.loop-map.invariant ∙ ap (λ maps. fold nearer None (filter test maps)) (take_all c.loop-map.map-index c.args.maps.now c.loop-map-test.false) ∙ fold_all (filter test c.args.maps.now)
