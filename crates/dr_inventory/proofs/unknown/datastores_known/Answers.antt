use Rattle.std.proofs.Common.{◌∙◌, not, is_some, find, flat_map, sym}
use Rattle.dr_base.specs.declared.estate_fault.EstateFault.TheVariants.{Unknown}
use Rattle.dr_inventory.specs.Names.{place, unknown}
use Rattle.dr_inventory.specs.Rules.{datastore_name}
use Rattle.dr_inventory.proofs.FaultLaws.{mapped_some, mapped_none}
use Rattle.dr_inventory.proofs.PlaceLaws.{first_filter}
use Rattle.dr_inventory.proofs.unknown.datastores_known.Goals as goal

pub returns-in-Some : goal.returns-in-Some
returns-in-Some g c =
    let names = flat_map g.T.Refers.names c.args.rows.now in
    let rows = c.args.doc.now.datastores in
    mapped_some (λ n. Unknown n) (unknown datastore_name rows names) c.in-Some.name
    (first_filter (λ n. not (is_some (place datastore_name rows n))) names
    ∙ sym (λ i. find (λ n. not (is_some (c.requires.datastores n i))) names) ∙ sym c.in-Some.ensures)

pub returns-in-None : goal.returns-in-None
returns-in-None g c =
    let names = flat_map g.T.Refers.names c.args.rows.now in
    let rows = c.args.doc.now.datastores in
    mapped_none (λ n. Unknown n) (unknown datastore_name rows names)
    (first_filter (λ n. not (is_some (place datastore_name rows n))) names
    ∙ sym (λ i. find (λ n. not (is_some (c.requires.datastores n i))) names) ∙ sym c.in-None.ensures)
