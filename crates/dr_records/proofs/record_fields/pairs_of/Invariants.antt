use Rattle.std.proofs.Common.{◌≡◌, ◌-◌}
use Rattle.dr_records.specs.Reading.{pair_at, entries_at}
use Rattle.dr_records.proofs.Loop.{with_front}
use Rattle.dr_records.proofs.record_fields.pairs_of.Given as goal

abbrev pub invariant-loop : goal.invariant-loop
invariant-loop l = with_front l.pairs.items (entries_at pair_at (l.count - l.counter) l.rest) ≡ entries_at pair_at l.count l.bytes
