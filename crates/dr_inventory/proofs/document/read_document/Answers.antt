use Rattle.std.proofs.lemmas.Result.{err_from_is_err_and}
use Rattle.dr_inventory.specs.Documents.{document}
use Rattle.dr_inventory.proofs.Outcome.{outcome_after, outcome_found, stops_then}
use Rattle.dr_inventory.proofs.document.read_document.Goals as goal

pub returns-in_err-consistency : goal.returns-in_err-consistency
unfolding document
returns-in_err-consistency c =
    let p = err_from_is_err_and c.from_residual-in_err-consistency.result c.from_residual-in_err-consistency.ensures.1 in
    rw (p.1, p.2) (simp (outcome_after, outcome_found, c.in_ok-must_hold_form.ensures, c.in_ok-machines.ensures, c.in_ok-datastores.ensures) (stops_then c.in_err-consistency.field-0.0 _ _ c.in_err-consistency.ensures))

pub returns-in_err-groups : goal.returns-in_err-groups
unfolding document
returns-in_err-groups c =
    let p = err_from_is_err_and c.from_residual-in_err-groups.result c.from_residual-in_err-groups.ensures.1 in
    rw (p.1, p.2) (simp (outcome_after, outcome_found, c.in_ok-must_hold_form.ensures, c.in_ok-machines.ensures, c.in_ok-datastores.ensures, c.in_ok-consistency.ensures) (stops_then c.in_err-groups.field-0.0 _ _ c.in_err-groups.ensures))

pub returns-in_err-maps : goal.returns-in_err-maps
unfolding document
returns-in_err-maps c =
    let p = err_from_is_err_and c.from_residual-in_err-maps.result c.from_residual-in_err-maps.ensures.1 in
    rw (p.1, p.2) (simp (outcome_after, outcome_found, c.in_ok-must_hold_form.ensures, c.in_ok-machines.ensures, c.in_ok-datastores.ensures, c.in_ok-consistency.ensures, c.in_ok-groups.ensures) (stops_then c.in_err-maps.field-0.0 _ _ c.in_err-maps.ensures))

pub returns-in_err-plans : goal.returns-in_err-plans
unfolding document
returns-in_err-plans c =
    let p = err_from_is_err_and c.from_residual-in_err-plans.result c.from_residual-in_err-plans.ensures.1 in
    rw (p.1, p.2) (simp (outcome_after, outcome_found, c.in_ok-must_hold_form.ensures, c.in_ok-machines.ensures, c.in_ok-datastores.ensures, c.in_ok-consistency.ensures, c.in_ok-groups.ensures, c.in_ok-maps.ensures) (stops_then c.in_err-plans.field-0.0 _ _ c.in_err-plans.ensures))

pub returns-in_err-no_others : goal.returns-in_err-no_others
unfolding document
returns-in_err-no_others c =
    let p = err_from_is_err_and c.from_residual-in_err-no_others.result c.from_residual-in_err-no_others.ensures.1 in
    rw (p.1, p.2) (simp (outcome_after, outcome_found, c.in_ok-must_hold_form.ensures, c.in_ok-machines.ensures, c.in_ok-datastores.ensures, c.in_ok-consistency.ensures, c.in_ok-groups.ensures, c.in_ok-maps.ensures, c.in_ok-plans.ensures) (stops_then c.in_err-no_others.field-0.0 _ _ c.in_err-no_others.ensures))

pub returns : goal.returns
unfolding document
returns c = simp (outcome_after, outcome_found, c.in_ok-must_hold_form.ensures, c.in_ok-machines.ensures, c.in_ok-datastores.ensures, c.in_ok-consistency.ensures, c.in_ok-groups.ensures, c.in_ok-maps.ensures, c.in_ok-plans.ensures, c.in_ok-no_others.ensures)
