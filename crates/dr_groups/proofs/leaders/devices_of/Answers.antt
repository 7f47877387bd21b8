use Rattle.std.proofs.Common.{◌∙◌, sym, ap}
use Rattle.dr_inventory.specs.declared.estate.Datastore.{Datastore}
use Rattle.dr_groups.proofs.RowLaws.{row_found, devices_named}
use Rattle.dr_groups.proofs.leaders.devices_of.Goals as goal

pub returns-clause-named : goal.returns-clause-named
returns-clause-named c =
    let row = c.index-as_slice-datastore.result in
    devices_named c.args.estate.now c.args.datastore row c.as_slice-2.result.now
    (row_found c.args.estate.now.datastores c.as_slice.result.now c.args.datastore row c.as_slice.ensures c.requires.declared c.index-as_slice-datastore.is)
    (c.as_slice-2.ensures ∙ ap (λ (r : Datastore). r.devices) (sym c.index-as_slice-datastore.is))
