use Rattle.std.proofs.Common.{arith}
use Rattle.dr_walk.proofs.RouteStages.{stage_at_none, stage_at_found}
use Rattle.dr_walk.proofs.route.Route.stage.Goals as goal

pub returns-in-0 : goal.returns-in-0
returns-in-0 c = stage_at_none _ _ c.in-0.is

pub returns-in_default : goal.returns-in_default
returns-in_default c =
    let items = c.deref.ensures.value in
    let first = c.get.ensures.lookup.1 in
    let within = c.get.ensures.lookup.3 in
    stage_at_found _ _ _ (omega arith) (rw items at first) (rw items at within)
