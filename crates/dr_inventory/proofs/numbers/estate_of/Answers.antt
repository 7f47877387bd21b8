use Rattle.std.proofs.Common.{◌∙◌, ◌≤◌, length, map, sym, ap}
use Rattle.dr_inventory.specs.Places.{number_in}
use Rattle.dr_inventory.specs.Rules.{devices, datastore_name}
use Rattle.dr_inventory.specs.Numbers.{machine_of, datastore_of, group_of, consistency_of}
use Rattle.dr_inventory.proofs.PlaceLaws.{place_small}
use Rattle.dr_inventory.proofs.NumberLaws.{estate_is}
use Rattle.dr_inventory.proofs.numbers.estate_of.Goals as goal

pub rows_of-requires : goal.rows_of-requires
rows_of-requires c = λ q. place_small datastore_name c.args.doc.datastores q _ (c.requires.known.datastores q) c.requires.few_datastores

pub rows_of-requires-2 : goal.rows_of-requires-2
rows_of-requires-2 c = λ q.
    let few : length (devices c.args.doc) ≤ 1024 = rw c.requires.names at c.requires.few_devices in
    place_small (λ n. n) (devices c.args.doc) q _ (c.requires.known.devices q) few

pub consistency_of-requires : goal.consistency_of-requires
consistency_of-requires c = λ q.
    let few : length (devices c.args.doc) ≤ 1024 = rw c.requires.names at c.requires.few_devices in
    place_small (λ n. n) (devices c.args.doc) q _ (c.requires.known.devices q) few

pub rows_of-requires-3 : goal.rows_of-requires-3
rows_of-requires-3 c = λ q. place_small datastore_name c.args.doc.datastores q _ (c.requires.known.datastores q) c.requires.few_datastores

pub returns : goal.returns
returns c =
    let places = c.args.places.now in
    let doc = c.args.doc in
    estate_is doc places c.requires.known c.new.result (c.new.ensures ∙ c.requires.names)
    c.in_ok-machines.machines (c.in_ok-machines.ensures ∙ ap (map (machine_of (number_in places.datastores))) c.as_slice.ensures)
    c.in_ok-datastores.datastores (c.in_ok-datastores.ensures ∙ ap (map (datastore_of (number_in places.devices))) c.as_slice-2.ensures)
    c.in_ok-consistency.consistency (c.in_ok-consistency.ensures ∙ ap (λ cs. map (consistency_of (number_in places.devices) cs) c.deref.result.now) c.as_slice-3.ensures ∙ ap (map (consistency_of (number_in places.devices) doc.consistency)) (c.deref.ensures.value ∙ sym c.new.ensures))
    c.in_ok-groups.groups (c.in_ok-groups.ensures ∙ ap (map (group_of (number_in places.datastores))) c.as_slice-4.ensures)
