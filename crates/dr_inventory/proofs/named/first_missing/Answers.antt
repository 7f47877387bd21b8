use Rattle.std.proofs.Common.{◌∙◌, is_some, not, sym, ap}
use Rattle.std.specs.Ordering.{nat_cmp}
use Rattle.std.specs.Cmp.Lexicographic.{slice_cmp}
use Rattle.std.specs.BTreeMap.{get}
use Rattle.dr_inventory.proofs.PlaceLaws.{find_hit, find_miss}
use Rattle.dr_inventory.proofs.named.first_missing.Goals as goal

pub returns-then-not-contains_key : goal.returns-then-not-contains_key
returns-then-not-contains_key c =
    find_hit (λ n. not (is_some (get (slice_cmp nat_cmp) c.args.places.now n))) c.args.names.now c.loop-name.name-index c.name-item.result c.loop-name-test.true c.name-item.is
    (ap not (sym c.contains_key.ensures ∙ c.if-not-contains_key.true)) ∙ c.loop-name.invariant

pub loop-name-preserved : goal.loop-name-preserved
loop-name-preserved c =
    find_miss (λ n. not (is_some (get (slice_cmp nat_cmp) c.args.places.now n))) c.args.names.now c.loop-name.name-index c.name-item.result c.loop-name-test.true c.name-item.is
    (ap not (sym c.contains_key.ensures ∙ c.if-not-contains_key.false)) ∙ c.loop-name.invariant
