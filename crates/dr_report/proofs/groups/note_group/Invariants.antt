use Rattle.std.proofs.Common.{◌≡◌, ℕ, ◌<◌, length, take}
use Rattle.std.specs.Prelude.{◌==◌, if◌then◌else◌, slice_index_or, Some, None}
use Rattle.std.specs.List.{list_any}
use Rattle.std.specs.Option.{option_or}
use Rattle.dr_report.proofs.groups.note_group.Given as goal

abbrev pub invariant-loop-datastore : goal.invariant-loop-datastore
invariant-loop-datastore l = record {
  same_length : length l.owners.items ≡ length l.initial.owners.items;
  noted : (k : ℕ) → k < length l.owners.items → slice_index_or l.owners.items k None ≡ option_or (slice_index_or l.initial.owners.items k None) (if list_any (λ own. own == k) (take l.datastore-index l.datastore-items) then Some l.group.name else None);
}
