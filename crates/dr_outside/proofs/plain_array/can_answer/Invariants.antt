use Rattle.std.proofs.Common.{◌≡◌, false, take}
use Rattle.std.specs.List.{list_any}
use Rattle.dr_outside.specs.Pairs.{may_fail}
use Rattle.dr_outside.specs.PairLists.{pair_at}
use Rattle.dr_outside.proofs.plain_array.can_answer.Given as goal

abbrev pub invariant-loop-k : goal.invariant-loop-k
invariant-loop-k l = list_any (λ k. may_fail l.call (pair_at l.pairs k) l.side) (take l.k-index l.list) ≡ false
