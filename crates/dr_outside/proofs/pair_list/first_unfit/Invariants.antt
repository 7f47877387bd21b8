use Rattle.std.proofs.Common.{◌≡◌, ℕ, true, take}
use Rattle.dr_outside.specs.Pairs.{is_fit}
use Rattle.dr_base.specs.Lists.{has}
use Rattle.dr_outside.specs.PairLists.{pair_at}
use Rattle.dr_outside.proofs.pair_list.first_unfit.Given as goal

abbrev pub invariant-loop-k : goal.invariant-loop-k
invariant-loop-k l = (j : ℕ) → has (take l.k-index l.list) j ≡ true → is_fit l.call (pair_at l.pairs j) ≡ true
