use Rattle.std.proofs.Common.{◌∙◌, Ok, sym, ap}
use Rattle.std.proofs.lemmas.Result.{err_from_is_err_and}
use Rattle.dr_inventory.specs.Limits.{limits}
use Rattle.dr_inventory.specs.Numbers.{estate_of}
use Rattle.dr_inventory.proofs.RowLaws.{only_limits, stops_too, none_stop}
use Rattle.dr_inventory.proofs.estates.finish.Goals as goal

pub returns-in_err-all_counts_within : goal.returns-in_err-all_counts_within
returns-in_err-all_counts_within c =
    let doc = c.args.doc in
    let p = err_from_is_err_and c.from_residual-in_err-all_counts_within.result c.from_residual-in_err-all_counts_within.ensures.1 in
    rw (p.1, p.2) (rw (only_limits doc (estate_of doc) c.in_ok-nothing_twice.ensures c.in_ok-all_known.ensures c.in_ok-devices_once.ensures)
    (stops_too c.in_err-all_counts_within.field-0.0 (limits doc) (tt {0}) (estate_of doc) c.in_err-all_counts_within.ensures.first))

pub returns : goal.returns
returns c =
    let doc = c.args.doc in
    only_limits doc (estate_of doc) c.in_ok-nothing_twice.ensures c.in_ok-all_known.ensures c.in_ok-devices_once.ensures
    ∙ none_stop (limits doc) (tt {0}) (tt {0}) (estate_of doc) c.in_ok-all_counts_within.ensures.first
    ∙ ap Ok (sym c.in_ok-estate_of.ensures)
