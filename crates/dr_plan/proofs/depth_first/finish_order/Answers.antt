use Rattle.std.proofs.Common.{◌∙◌, length, ap, arith}
use Rattle.dr_groups.proofs.MarkLaws.{marked_within}
use Rattle.dr_plan.proofs.ChainLaws.{all-below}
use Rattle.dr_plan.proofs.WalkLaws.{walk-none}
use Rattle.dr_plan.proofs.depth_first.finish_order.Goals as goal

pub visit_each-requires-clause-walk : goal.visit_each-requires-clause-walk
visit_each-requires-clause-walk c = walk-none c.args.graph.now c.deref_mut.result.now c.new-finished.result.items (ap length c.deref_mut.ensures.value ∙ c.in_ok-seen.ensures.length) c.new-finished.ensures.items

pub returns-clause-within : goal.returns-clause-within
returns-clause-within c =
    let walk = c.in_ok-visit_each.ensures.walk in
    all-below (length c.args.graph.now) c.visit_each.new.finished.items (λ x listed. omega (arith, marked_within c.visit_each.new.seen x (walk.marked x listed), walk.one_each))
