use Rattle.std.proofs.Common.{◌≡◌, ℕ, length}
use Rattle.std.specs.Prelude.{slice_index_or, None}
use Rattle.dr_report.proofs.groups.no_owners.Given as goal

abbrev pub invariant-loop : goal.invariant-loop
invariant-loop l = record {
  length : length l.owners.items ≡ l.counter;
  none : (k : ℕ) → slice_index_or l.owners.items k None ≡ None;
}
