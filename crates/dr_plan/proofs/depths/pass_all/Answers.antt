use Rattle.std.proofs.Common.{ℕ, subst, arith}
use Rattle.dr_groups.specs.Marks.{IsMarked}
use Rattle.dr_groups.proofs.RowLaws.{contained_at}
use Rattle.dr_plan.proofs.DepthLaws.{comes_after, passing-all}
use Rattle.dr_plan.proofs.depths.pass_all.Goals as goal

pub pass-requires-clause-followed : goal.pass-requires-clause-followed
pass-requires-clause-followed c = λ d depends.
    let at = comes_after c.args.graph.now c.args.order.now c.loop-machine.machine-index d c.requires.graph c.requires.no_cycle c.requires.in_order c.requires.all c.loop-machine-test.true depends in
    let P : ℕ → Type 0 = λ x. IsMarked c.loop-machine.passed.items x in
    subst P at.2 (c.loop-machine.invariant.so_far at.0 at.1)

pub returns-clause-depths : goal.returns-clause-depths
returns-clause-depths c =
    let order = c.args.order.now in
    let P : ℕ → Type 0 = λ x. IsMarked c.loop-machine.passed.items x in
    passing-all c.args.graph.now c.loop-machine.depths.items c.loop-machine.passed.items c.loop-machine.invariant.passing
    (λ k within.
    let at = contained_at order k (c.requires.all k within) in
    subst P at.2 (c.loop-machine.invariant.so_far at.0 (omega (arith, at.1, c.loop-machine-test.false))))

pub returns-clause-small : goal.returns-clause-small
returns-clause-small c = λ machine. omega (arith, c.loop-machine.invariant.passing.small machine)
