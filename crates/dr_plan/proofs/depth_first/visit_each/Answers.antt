use Rattle.std.proofs.Common.{◌∷◌, [], arith}
use Rattle.dr_plan.proofs.ChainLaws.{contains-this}
use Rattle.dr_plan.proofs.WalkLaws.{seen-more, ended-more}
use Rattle.dr_plan.proofs.depth_first.visit_each.Goals as goal

pub loop-machine-preserved : goal.loop-machine-preserved
loop-machine-preserved c =
    let g = c.args.graph.now in
    let i = c.loop-machine.machine in
    let before = c.loop-machine.invariant in
    let went = c.in_ok-visit.ensures.went_on in
    record {
      walk = c.in_ok-visit.ensures.walk;
      all = seen-more c.loop-machine.seen c.visit.new.seen i went.kept before.all (went.all i (contains-this i));
      ended = ended-more g (i ∷ []) c.loop-machine.seen c.loop-machine.finished.items c.visit.new.seen c.visit.new.finished.items went before.ended;
    }

pub returns-clause-all : goal.returns-clause-all
returns-clause-all c = λ k below. c.loop-machine.invariant.ended k (c.loop-machine.invariant.all k (omega arith))
