use Rattle.std.proofs.Common.{length, ap, arith}
use Rattle.dr_outside.specs.PairLists.{pair_at}
use Rattle.dr_outside.proofs.Drifts.{Drift-refl}
use Rattle.dr_outside.proofs.AtOnce.{none_done, wrong_at_once}
use Rattle.dr_outside.proofs.Listed.{listed_below}
use Rattle.dr_outside.proofs.plain_array.PlainArray.run.Goals as goal

pub returns-in-Some-clause-step : goal.returns-in-Some-clause-step
returns-in-Some-clause-step c =
    rw (← c.self.view_is) (none_done c.args.call c.args.list.now c.in-Some.side _ _ _ (rw c.deref-2.ensures.value at c.in-Some.ensures.usable) (λ i. Drift-refl _))

pub target_half-requires : goal.target_half-requires
target_half-requires c =
    omega (arith, listed_below c.args.list.now (length c.self.inside.pairs.items) (rw (← c.self.view_is) at c.requires.below) _ c.in-Some-first_unfit.ensures.listed, ap length c.deref-3.ensures.value, ap length c.deref-in-Some-first_unfit.ensures.value)

pub returns-in-Some-first_unfit-clause-step : goal.returns-in-Some-first_unfit-clause-step
returns-in-Some-first_unfit-clause-step c =
    rw (← c.self.view_is) (wrong_at_once c.args.call c.args.list.now (pair_at c.self.inside.pairs.items) c.in-Some-first_unfit.k _ (rw c.deref-3.ensures.value at c.in-Some-first_unfit.ensures) (rw c.deref-in-Some-first_unfit.ensures.value at c.target_half.ensures))
