use Rattle.std.proofs.Common.{◌∙◌, not, is_some, find, flat_map, sym, ap}
use Rattle.std.specs.Ordering.{nat_cmp}
use Rattle.std.specs.Cmp.Lexicographic.{slice_cmp}
use Rattle.std.specs.BTreeMap.{get}
use Rattle.dr_base.specs.declared.estate_fault.EstateFault.TheVariants.{Unknown}
use Rattle.dr_inventory.specs.Names.{place, unknown}
use Rattle.dr_inventory.specs.Rules.{devices, consistency_devices, grouped_devices}
use Rattle.dr_inventory.proofs.FaultLaws.{mapped_some, mapped_none}
use Rattle.dr_inventory.proofs.PlaceLaws.{first_filter}
use Rattle.dr_inventory.proofs.unknown.devices_known.Goals as goal

pub returns-in-Some : goal.returns-in-Some
returns-in-Some c =
    let names = grouped_devices c.args.doc.now in
    let rows = devices c.args.doc.now in
    mapped_some (λ n. Unknown n) (unknown (λ n. n) rows names) c.in-Some.name
    (first_filter (λ n. not (is_some (place (λ n. n) rows n))) names
    ∙ sym (λ i. find (λ n. not (is_some (c.requires.devices n i))) names)
    ∙ sym (c.in-Some.ensures ∙ ap (λ gs. find (λ n. not (is_some (get (slice_cmp nat_cmp) c.args.places.now.devices n))) (flat_map consistency_devices gs)) c.as_slice.ensures))

pub returns-in-None : goal.returns-in-None
returns-in-None c =
    let names = grouped_devices c.args.doc.now in
    let rows = devices c.args.doc.now in
    mapped_none (λ n. Unknown n) (unknown (λ n. n) rows names)
    (first_filter (λ n. not (is_some (place (λ n. n) rows n))) names
    ∙ sym (λ i. find (λ n. not (is_some (c.requires.devices n i))) names)
    ∙ sym (c.in-None.ensures ∙ ap (λ gs. find (λ n. not (is_some (get (slice_cmp nat_cmp) c.args.places.now.devices n))) (flat_map consistency_devices gs)) c.as_slice.ensures))
