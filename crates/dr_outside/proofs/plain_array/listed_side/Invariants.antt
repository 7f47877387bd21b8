use Rattle.std.proofs.Common.{◌≡◌, drop}
use Rattle.dr_outside.specs.Arrays.{has_part}
use Rattle.dr_outside.specs.PairLists.{pair_at}
use Rattle.dr_outside.specs.PlainArrays.{side_to_fail}
use Rattle.dr_outside.proofs.plain_array.listed_side.Given as goal

abbrev pub invariant-loop-fail : goal.invariant-loop-fail
invariant-loop-fail l =
    side_to_fail l.number (has_part l.call l.list (pair_at l.pairs)) l.fails ≡ side_to_fail l.number (has_part l.call l.list (pair_at l.pairs)) (drop l.fail-index l.fails)
