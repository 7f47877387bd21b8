use Rattle.std.proofs.Common.{◌≡◌, false, filter, get_or}
use Rattle.std.specs.List.{range_with_len}
use Rattle.dr_plan.proofs.marks.marked_numbers.Given as goal

abbrev pub invariant-loop-i : goal.invariant-loop-i
invariant-loop-i l = l.numbers.items ≡ filter (λ k. get_or l.marks k false) (range_with_len 0 l.i)
