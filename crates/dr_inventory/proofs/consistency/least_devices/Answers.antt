use Rattle.std.proofs.Common.{◌≡◌, ◌∙◌, Some, None, cond, map, sym, ap}
use Rattle.std.specs.Option.{option_or}
use Rattle.std.specs.Ordering.{nat_cmp}
use Rattle.std.specs.Cmp.Lexicographic.{slice_cmp}
use Rattle.std.specs.BTreeMap.{get}
use Rattle.dr_inventory.specs.Names.{is_name_of}
use Rattle.dr_inventory.specs.Places.{number_in}
use Rattle.dr_inventory.specs.Numbers.{least}
use Rattle.dr_inventory.proofs.LeastLaws.{least_more}
use Rattle.dr_inventory.proofs.consistency.least_devices.Goals as goal

pub loop-group-preserved : goal.loop-group-preserved
loop-group-preserved c = λ q.
    let f = number_in c.args.devices.now in
    let x = c.group-item.result in
    let before = get (slice_cmp nat_cmp) c.loop-group.least_devices q in
    let value : c.least_of-least.result ≡ least (map f x.devices) = c.least_of-least.ensures ∙ ap (λ ns. least (map f ns)) c.as_slice-names.ensures in
    c.in_ok-note_all.ensures q
    ∙ ap (λ ns. option_or before (cond (is_name_of (λ n. n) q ns) (Some c.least_of-least.result) None)) c.as_slice-names.ensures
    ∙ ap (λ k. option_or before (cond (is_name_of (λ n. n) q x.devices) (Some k) None)) value
    ∙ ap (λ o. option_or o (cond (is_name_of (λ n. n) q x.devices) (Some (least (map f x.devices))) None)) (c.loop-group.invariant q)
    ∙ sym (least_more f c.args.groups.now c.loop-group.group-index x q c.loop-group-test.true c.group-item.is)
