use Rattle.std.proofs.Common.{◌≡◌, ℕ, take, if◌then◌else◌}
use Rattle.dr_outside.specs.Pairs.{made}
use Rattle.dr_base.specs.Lists.{has}
use Rattle.dr_outside.specs.PairLists.{pair_at}
use Rattle.dr_outside.proofs.pair_list.make_all.Given as goal

abbrev pub invariant-loop-k : goal.invariant-loop-k
invariant-loop-k l =
    (i : ℕ) → pair_at l.pairs i ≡ (if has (take l.k-index l.list) i then made l.call (pair_at l.initial.pairs i) else pair_at l.initial.pairs i)
