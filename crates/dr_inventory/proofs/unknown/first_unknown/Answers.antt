use Rattle.std.proofs.Common.{◌∙◌, ◌+◌, ℕ, List, drop, find, flat_map, is_some, not, sym, ap}
use Rattle.std.specs.Ordering.{nat_cmp}
use Rattle.std.specs.Cmp.Lexicographic.{slice_cmp}
use Rattle.std.specs.BTreeMap.{get}
use Rattle.dr_inventory.proofs.PlaceLaws.{find_more, or_here, or_there}
use Rattle.dr_inventory.proofs.unknown.first_unknown.Goals as goal

pub returns-then-is_some : goal.returns-then-is_some
returns-then-is_some g c =
    let p = λ (n : List ℕ). not (is_some (get (slice_cmp nat_cmp) c.args.places.now n)) in
    let f = g.T.Refers.names in
    or_here c.first_missing-missing.result (find p (flat_map f (drop (c.loop-row.row-index + 1) c.args.rows.now))) (find p (f c.row-item.result)) (c.first_missing-missing.ensures ∙ ap (find p) c.names.ensures) (sym c.is_some.ensures ∙ c.if-is_some.true)
    ∙ sym (find_more p f c.args.rows.now c.loop-row.row-index c.row-item.result c.loop-row-test.true c.row-item.is) ∙ c.loop-row.invariant

pub loop-row-preserved : goal.loop-row-preserved
loop-row-preserved g c =
    let p = λ (n : List ℕ). not (is_some (get (slice_cmp nat_cmp) c.args.places.now n)) in
    let f = g.T.Refers.names in
    or_there c.first_missing-missing.result (find p (flat_map f (drop (c.loop-row.row-index + 1) c.args.rows.now))) (find p (f c.row-item.result)) (c.first_missing-missing.ensures ∙ ap (find p) c.names.ensures) (sym c.is_some.ensures ∙ c.if-is_some.false)
    ∙ sym (find_more p f c.args.rows.now c.loop-row.row-index c.row-item.result c.loop-row-test.true c.row-item.is) ∙ c.loop-row.invariant
