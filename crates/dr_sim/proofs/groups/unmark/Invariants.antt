use Rattle.std.proofs.Common.{◌≡◌, ℕ, true, false, take, get_or}
use Rattle.dr_base.specs.Lists.{has}
use Rattle.dr_sim.specs.Groups.{least_of}
use Rattle.dr_sim.proofs.groups.unmark.Given as goal

abbrev pub invariant-loop-k : goal.invariant-loop-k
invariant-loop-k l = (k : ℕ) → has (take l.k-index l.list) k ≡ true → get_or l.marks (least_of l.entries k) false ≡ false
