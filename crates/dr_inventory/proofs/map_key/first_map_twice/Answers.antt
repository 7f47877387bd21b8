use Rattle.std.proofs.Common.{◌∙◌, ◌||◌, bytes_eq, take, refl, sym, ap}
use Rattle.std.specs.Ordering.{nat_cmp}
use Rattle.std.specs.Cmp.Lexicographic.{slice_cmp}
use Rattle.std.specs.BTreeSet.{contains}
use Rattle.dr_inventory.specs.Names.{first, nothing_within}
use Rattle.dr_inventory.specs.Maps.{map_key, map_from}
use Rattle.dr_inventory.proofs.TwiceLaws.{twice_here, twice_more, twice_done, name_more}
use Rattle.dr_inventory.proofs.map_key.first_map_twice.Goals as goal

pub returns-then-branch : goal.returns-then-branch
returns-then-branch c =
    let x = c.map-item.result in
    let known = sym (c.loop-map.invariant.known (map_key x)) ∙ ap (λ k. contains (slice_cmp nat_cmp) c.loop-map.keys k) (sym c.key_of.ensures) ∙ sym c.in_ok-add_key.ensures.again ∙ c.if-branch.true in
    twice_here map_key map_from nothing_within c.args.maps.now c.loop-map.map-index x c.loop-map-test.true c.map-item.is known ∙ ap first c.loop-map.invariant.same

pub loop-map-preserved : goal.loop-map-preserved
loop-map-preserved c =
    let x = c.map-item.result in
    let new = sym (c.loop-map.invariant.known (map_key x)) ∙ ap (λ k. contains (slice_cmp nat_cmp) c.loop-map.keys k) (sym c.key_of.ensures) ∙ sym c.in_ok-add_key.ensures.again ∙ c.if-branch.false in
    record {
      same = twice_more map_key map_from nothing_within c.args.maps.now c.loop-map.map-index x c.loop-map-test.true c.map-item.is new refl ∙ c.loop-map.invariant.same;
      known = λ q. c.in_ok-add_key.ensures.added q
          ∙ ap (λ k. bytes_eq q k || contains (slice_cmp nat_cmp) c.loop-map.keys q) c.key_of.ensures
          ∙ ap (λ b. bytes_eq q (map_key x) || b) (c.loop-map.invariant.known q)
          ∙ sym (name_more map_key c.args.maps.now c.loop-map.map-index x q c.loop-map-test.true c.map-item.is);
    }

pub returns : goal.returns
returns c = ap first (sym (twice_done map_key map_from nothing_within c.args.maps.now (take c.loop-map.map-index c.args.maps.now) c.loop-map.map-index c.loop-map-test.false) ∙ c.loop-map.invariant.same)
