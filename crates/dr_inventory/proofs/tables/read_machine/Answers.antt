use Rattle.std.proofs.lemmas.Result.{err_from_is_err_and}
use Rattle.dr_inventory.specs.Tables.{machine}
use Rattle.dr_inventory.proofs.Outcome.{outcome_after, outcome_found, stops_then}
use Rattle.dr_inventory.proofs.tables.read_machine.Goals as goal

pub returns-in_err-no_others : goal.returns-in_err-no_others
unfolding machine
returns-in_err-no_others c =
    let p = err_from_is_err_and c.from_residual-in_err-no_others.result c.from_residual-in_err-no_others.ensures.1 in
    rw (p.1, p.2) (simp (outcome_after, outcome_found, c.in_ok-name.ensures, c.in_ok-network.ensures, c.in_ok-folder.ensures, c.in_ok-pool.ensures, c.in_ok-datastores.ensures) (stops_then c.in_err-no_others.field-0.0 _ _ c.in_err-no_others.ensures))

pub returns : goal.returns
unfolding machine
returns c = simp (outcome_after, outcome_found, c.in_ok-name.ensures, c.in_ok-network.ensures, c.in_ok-folder.ensures, c.in_ok-pool.ensures, c.in_ok-datastores.ensures, c.in_ok-no_others.ensures)
