use Rattle.std.proofs.Common.{◌≡◌, ◌||◌, ℕ, false, get_or, take, nat_eq}
use Rattle.std.specs.List.{list_any}
use Rattle.dr_plan.proofs.marks.mark_all.Given as goal

abbrev pub invariant-loop-number : goal.invariant-loop-number
invariant-loop-number l = (k : ℕ) → get_or l.marks k false ≡ (get_or l.initial.marks k false || list_any (λ n. nat_eq n k) (take l.number-index l.numbers))
