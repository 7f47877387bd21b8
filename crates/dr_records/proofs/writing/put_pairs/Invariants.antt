use Rattle.std.proofs.Common.{◌≡◌, ◌+◌, ◌-◌, ◌*◌, ◌≤◌, ◌++◌, length, take, vec_len, vec_capacity}
use Rattle.std.specs.List.{flat_map}
use Rattle.dr_records.specs.Spelling.{two_bytes, pair_text}
use Rattle.dr_records.proofs.writing.put_pairs.Given as goal

abbrev pub invariant-loop-pair : goal.invariant-loop-pair
invariant-loop-pair l = record {
  items : l.out.items ≡ (l.fn.out.items ++ two_bytes (length l.pairs)) ++ flat_map pair_text (take l.pair-index l.pairs);
  len : vec_len l.out ≡ vec_len l.fn.out + 2 + 21 * l.pair-index;
  room : vec_len l.out + 21 * (length l.pairs - l.pair-index) ≤ vec_capacity l.out;
  capacity : vec_capacity l.fn.out ≤ vec_capacity l.out;
}
