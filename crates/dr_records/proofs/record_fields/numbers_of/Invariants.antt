use Rattle.std.proofs.Common.{◌≡◌, ◌-◌}
use Rattle.std.specs.Int.{w32}
use Rattle.dr_records.specs.Reading.{number_at, entries_at}
use Rattle.dr_records.proofs.Loop.{with_front}
use Rattle.dr_records.proofs.record_fields.numbers_of.Given as goal

abbrev pub invariant-loop : goal.invariant-loop
invariant-loop l = with_front l.numbers.items (entries_at (number_at w32) (l.count - l.counter) l.rest) ≡ entries_at (number_at w32) l.count l.bytes
