use Rattle.std.proofs.Common.{◌≡◌, ℕ, take, false, get_or}
use Rattle.dr_outside.specs.PairLists.{pair_at}
use Rattle.dr_sim.specs.Groups.{least_of}
use Rattle.dr_sim.proofs.Marking.{made_where}
use Rattle.dr_sim.proofs.groups.make_marked.Given as goal

abbrev pub invariant-loop-k : goal.invariant-loop-k
invariant-loop-k l = (i : ℕ) → pair_at l.pairs i ≡ made_where l.call (take l.k-index l.list) (λ k. get_or l.marks (least_of l.entries k) false) l.initial.pairs i
