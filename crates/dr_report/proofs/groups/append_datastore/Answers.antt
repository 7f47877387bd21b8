use Rattle.std.proofs.Common.{◌<◌, length, refl, arith}
use Rattle.std.specs.Prelude.{slice_index_or}
use Rattle.std.proofs.lemmas.List.{length-map}
use Rattle.dr_groups.proofs.SplitLaws.{labels_below}
use Rattle.dr_report.proofs.groups.append_datastore.Goals as goal

pub datastore_name-requires-2 : goal.datastore_name-requires-2
datastore_name-requires-2 c =
    let labels = c.args.labels.now in
    let within : c.args.datastore < length labels = omega (arith, c.requires.declared, c.requires.labels.one_each) in
    let below : slice_index_or labels c.args.datastore 0 < length labels = labels_below c.args.estate.now labels (length labels) c.requires.labels refl c.args.datastore 0 within in
    rw length-map (omega (arith, below, c.requires.labels.one_each))
