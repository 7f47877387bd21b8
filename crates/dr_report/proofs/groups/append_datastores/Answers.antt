use Rattle.std.proofs.Common.{◌++◌, ap, sym, ◌∙◌, append_assoc}
use Rattle.std.specs.List.{flat_map, range_with_len}
use Rattle.dr_report.specs.Reports.{datastore_text}
use Rattle.dr_report.proofs.OwnerLaws.{range_more}
use Rattle.dr_report.proofs.groups.append_datastores.Goals as goal

pub loop-datastore-preserved : goal.loop-datastore-preserved
loop-datastore-preserved c =
    let line = datastore_text c.args.estate.now c.args.labels.now in
    let old = c.args.out.now.items in
    let at = c.loop-datastore.datastore in
    c.in_ok-append_datastore.ensures.ok ∙ ap (λ items. items ++ line at) c.loop-datastore.invariant ∙ append_assoc old (flat_map line (range_with_len 0 at)) (line at) ∙ ap (λ text. old ++ text) (sym (range_more line at))
