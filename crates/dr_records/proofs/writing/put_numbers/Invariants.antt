use Rattle.std.proofs.Common.{◌≡◌, ◌+◌, ◌-◌, ◌*◌, ◌≤◌, ◌++◌, length, take, vec_len, vec_capacity}
use Rattle.std.specs.List.{flat_map}
use Rattle.dr_records.specs.Spelling.{two_bytes, four_bytes}
use Rattle.dr_records.proofs.writing.put_numbers.Given as goal

abbrev pub invariant-loop-number : goal.invariant-loop-number
invariant-loop-number l = record {
  items : l.out.items ≡ (l.fn.out.items ++ two_bytes (length l.numbers)) ++ flat_map four_bytes (take l.number-index l.numbers);
  len : vec_len l.out ≡ vec_len l.fn.out + 2 + 4 * l.number-index;
  room : vec_len l.out + 4 * (length l.numbers - l.number-index) ≤ vec_capacity l.out;
  capacity : vec_capacity l.fn.out ≤ vec_capacity l.out;
}
