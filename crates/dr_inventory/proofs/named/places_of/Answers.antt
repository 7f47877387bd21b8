use Rattle.std.proofs.Common.{◌∙◌, Some, None, cond, bytes_eq, sym, ap}
use Rattle.std.specs.Option.{option_or}
use Rattle.std.specs.Ordering.{nat_cmp}
use Rattle.std.specs.Cmp.Lexicographic.{slice_cmp}
use Rattle.std.specs.BTreeMap.{get}
use Rattle.dr_inventory.proofs.PlaceLaws.{place_more}
use Rattle.dr_inventory.proofs.named.places_of.Goals as goal

pub loop-i-preserved : goal.loop-i-preserved
loop-i-preserved g c = λ q.
    let name = g.T.Named.name in
    let x = c.index-rows-i.result in
    c.in_ok-note.ensures q
    ∙ ap (λ n. option_or (get (slice_cmp nat_cmp) c.loop-i.places q) (cond (bytes_eq q n) (Some c.loop-i.i) None)) c.name.ensures
    ∙ ap (λ o. option_or o (cond (bytes_eq q (name x)) (Some c.loop-i.i) None)) (c.loop-i.invariant q)
    ∙ sym (place_more name c.args.rows.now c.loop-i.i x q c.loop-i-test.true c.index-rows-i.is)
