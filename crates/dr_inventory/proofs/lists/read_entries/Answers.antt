use Rattle.std.proofs.Common.{◌≡◌, ◌+◌, ◌∙◌, drop, sym, ap, Ok, arith}
use Rattle.std.proofs.lemmas.Result.{err_from_is_err_and}
use Rattle.std.proofs.Math.ListN.{drop_of_length-le}
use Rattle.toml.proofs.Views.{items_view-drop}
use Rattle.toml.specs.Data.{item, no_items}
use Rattle.toml.specs.View.{view, items_view}
use Rattle.dr_inventory.specs.Shapes.{entry}
use Rattle.dr_inventory.proofs.Loop.{goes_on, ends, is_done}
use Rattle.dr_inventory.proofs.lists.read_entries.Goals as goal

pub returns-in_err-read : goal.returns-in_err-read
returns-in_err-read g c =
    let p = err_from_is_err_and c.from_residual-in_err-read.result c.from_residual-in_err-read.ensures.1 in
    let at : c.deref.result.now ≡ entry c.args.path.now c.loop-i.i = c.deref.ensures.value ∙ c.in_ok-at.ensures in
    let v = c.index-values-i.result in
    let here : items_view (drop c.loop-i.i c.args.values.now) ≡ item (view v) (items_view (drop (c.loop-i.i + 1) c.args.values.now)) =
    items_view-drop c.args.values.now c.loop-i.i v c.loop-i-test.true ∙ ap (λ w. item (view w) (items_view (drop (c.loop-i.i + 1) c.args.values.now))) (sym c.index-values-i.is) in
    rw (p.1, p.2) (ends c.in_err-read.field-0.0 c.args.walk.strict g.T.FromValue.shape c.args.path.now c.loop-i.i (view v) _ c.loop-i.rows.items _ (rw at at c.in_err-read.ensures) (rw here at c.loop-i.invariant))

pub loop-i-preserved : goal.loop-i-preserved
loop-i-preserved g c =
    let at : c.deref.result.now ≡ entry c.args.path.now c.loop-i.i = c.deref.ensures.value ∙ c.in_ok-at.ensures in
    let v = c.index-values-i.result in
    let here : items_view (drop c.loop-i.i c.args.values.now) ≡ item (view v) (items_view (drop (c.loop-i.i + 1) c.args.values.now)) =
    items_view-drop c.args.values.now c.loop-i.i v c.loop-i-test.true ∙ ap (λ w. item (view w) (items_view (drop (c.loop-i.i + 1) c.args.values.now))) (sym c.index-values-i.is) in
    rw c.in_ok-push.ensures.items (goes_on c.args.walk.strict g.T.FromValue.shape c.args.path.now c.loop-i.i (view v) _ c.loop-i.rows.items c.in_ok-read.field-0 _ (rw at at c.in_ok-read.ensures) (rw here at c.loop-i.invariant))

pub returns : goal.returns
returns g c =
    let none : items_view (drop c.loop-i.i c.args.values.now) ≡ no_items = ap items_view (drop_of_length-le c.args.values.now (omega arith)) in
    is_done c.args.walk.strict g.T.FromValue.shape c.args.path.now c.loop-i.i c.loop-i.rows.items _ (rw none at c.loop-i.invariant) ∙ ap Ok (sym c.new.ensures)
