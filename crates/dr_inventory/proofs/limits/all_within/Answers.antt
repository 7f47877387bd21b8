use Rattle.std.proofs.Common.{◌∙◌, ◌+◌, sym, ap, drop, flat_map}
use Rattle.std.proofs.lemmas.Result.{err_from_is_err_and}
use Rattle.dr_inventory.specs.Part.{first_or}
use Rattle.dr_inventory.proofs.FaultLaws.{rows_more, rows_done, stops_before, goes_by}
use Rattle.dr_inventory.proofs.limits.all_within.Goals as goal

pub returns-in_err-within_limits : goal.returns-in_err-within_limits
returns-in_err-within_limits g c =
    let p = err_from_is_err_and c.from_residual.result c.from_residual.ensures.1 in
    let f = g.T.Limited.above in
    let x = c.row-item.result in
    let rest = flat_map f (drop (c.loop-row.row-index + 1) c.args.rows.now) in
    let here = ap (λ fs. first_or fs (tt {0})) (rows_more f c.args.rows.now c.loop-row.row-index x c.loop-row-test.true c.row-item.is) in
    rw (p.1, p.2) (rw (sym here ∙ c.loop-row.invariant) at (stops_before c.in_err-within_limits.field-0.0 (f x) rest (tt {0}) (tt {0}) c.in_err-within_limits.ensures))

pub loop-row-preserved : goal.loop-row-preserved
loop-row-preserved g c =
    let f = g.T.Limited.above in
    let x = c.row-item.result in
    let rest = flat_map f (drop (c.loop-row.row-index + 1) c.args.rows.now) in
    let here = ap (λ fs. first_or fs (tt {0})) (rows_more f c.args.rows.now c.loop-row.row-index x c.loop-row-test.true c.row-item.is) in
    sym (goes_by (f x) rest (tt {0}) c.in_ok-within_limits.field-0 (tt {0}) c.in_ok-within_limits.ensures) ∙ sym here ∙ c.loop-row.invariant

pub returns : goal.returns
returns g c = sym (c.loop-row.invariant) ∙ ap (λ fs. first_or fs (tt {0})) (rows_done g.T.Limited.above c.args.rows.now c.loop-row.row-index c.loop-row-test.false)
