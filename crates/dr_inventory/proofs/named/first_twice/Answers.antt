use Rattle.std.proofs.Common.{◌≡◌, ◌∙◌, ◌||◌, Some, true, false, is_some, bytes_eq, take, sym, ap}
use Rattle.std.specs.Ordering.{nat_cmp}
use Rattle.std.specs.Cmp.Lexicographic.{slice_cmp}
use Rattle.std.specs.BTreeSet.{contains}
use Rattle.dr_inventory.specs.Names.{first}
use Rattle.dr_inventory.proofs.TwiceLaws.{twice_here, twice_within, twice_more, twice_done, name_more}
use Rattle.dr_inventory.proofs.named.first_twice.Goals as goal

pub returns-then-branch : goal.returns-then-branch
returns-then-branch g c =
    let name = g.T.Named.name in
    let x = c.row-item.result in
    let known = sym (c.loop-row.invariant.known (name x)) ∙ ap (λ n. contains (slice_cmp nat_cmp) c.loop-row.names n) (sym c.name-name.ensures) ∙ sym c.in_ok-add.ensures.again ∙ c.if-branch.true in
    ap (λ n. Some n) c.name-name.ensures
    ∙ twice_here name name g.T.Named.within c.args.rows.now c.loop-row.row-index x c.loop-row-test.true c.row-item.is known ∙ ap first c.loop-row.invariant.same

pub returns-then-is_some : goal.returns-then-is_some
returns-then-is_some g c =
    let name = g.T.Named.name in
    let x = c.row-item.result in
    let new = sym (c.loop-row.invariant.known (name x)) ∙ ap (λ n. contains (slice_cmp nat_cmp) c.loop-row.names n) (sym c.name-name.ensures) ∙ sym c.in_ok-add.ensures.again ∙ c.if-branch.false in
    let found : is_some (first (g.T.Named.within x)) ≡ true = ap is_some (sym c.in_ok-within.ensures) ∙ sym c.is_some.ensures ∙ c.if-is_some.true in
    c.in_ok-within.ensures
    ∙ twice_within name name g.T.Named.within c.args.rows.now c.loop-row.row-index x c.loop-row-test.true c.row-item.is new found ∙ ap first c.loop-row.invariant.same

pub loop-row-preserved : goal.loop-row-preserved
loop-row-preserved g c =
    let name = g.T.Named.name in
    let x = c.row-item.result in
    let new = sym (c.loop-row.invariant.known (name x)) ∙ ap (λ n. contains (slice_cmp nat_cmp) c.loop-row.names n) (sym c.name-name.ensures) ∙ sym c.in_ok-add.ensures.again ∙ c.if-branch.false in
    let none : is_some (first (g.T.Named.within x)) ≡ false = ap is_some (sym c.in_ok-within.ensures) ∙ sym c.is_some.ensures ∙ c.if-is_some.false in
    record {
      same = twice_more name name g.T.Named.within c.args.rows.now c.loop-row.row-index x c.loop-row-test.true c.row-item.is new none ∙ c.loop-row.invariant.same;
      known = λ q. c.in_ok-add.ensures.added q
          ∙ ap (λ n. bytes_eq q n || contains (slice_cmp nat_cmp) c.loop-row.names q) c.name-name.ensures
          ∙ ap (λ b. bytes_eq q (name x) || b) (c.loop-row.invariant.known q)
          ∙ sym (name_more name c.args.rows.now c.loop-row.row-index x q c.loop-row-test.true c.row-item.is);
    }

pub returns : goal.returns
returns g c = ap first (sym (twice_done g.T.Named.name g.T.Named.name g.T.Named.within c.args.rows.now (take c.loop-row.row-index c.args.rows.now) c.loop-row.row-index c.loop-row-test.false) ∙ c.loop-row.invariant.same)
