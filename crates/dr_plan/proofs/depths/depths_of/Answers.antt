use Rattle.std.proofs.Common.{ℕ, List, sym, subst}
use Rattle.std.specs.List.{Contains}
use Rattle.dr_plan.proofs.DepthLaws.{passing-none}
use Rattle.dr_plan.proofs.depths.depths_of.Goals as goal

pub pass_all-requires-clause-all : goal.pass_all-requires-clause-all
pass_all-requires-clause-all c = λ k within.
    let P : List ℕ → Type 0 = λ xs. Contains xs k in
    subst P (sym c.deref.ensures.value) (c.in_ok-order.ensures.all k within)

pub pass_all-requires-clause-passing : goal.pass_all-requires-clause-passing
pass_all-requires-clause-passing c =
    passing-none c.args.graph.now c.in_ok-depths.depths.items c.in_ok-passed.passed.items (c.in_ok-depths.ensures.items_if_clones_equal (λ y same. same)) c.in_ok-passed.ensures.length c.in_ok-passed.ensures.none
