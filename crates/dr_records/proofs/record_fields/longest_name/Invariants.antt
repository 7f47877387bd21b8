use Rattle.std.proofs.Common.{◌≡◌, ◌≤◌, length}
use Rattle.dr_records.specs.Reading.{longest_name}
use Rattle.dr_records.proofs.record_fields.longest_name.Given as goal

abbrev pub invariant-loop-size : goal.invariant-loop-size
invariant-loop-size l = record { within : l.size ≤ length l.bytes; longest : longest_name l.size l.bytes ≡ longest_name (length l.bytes) l.bytes }

abbrev pub decreases-loop-size : goal.decreases-loop-size
decreases-loop-size l = l.size
