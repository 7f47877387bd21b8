use Rattle.std.proofs.Common.{◌≡◌, ℕ, ◌<◌, length, take}
use Rattle.std.specs.Prelude.{slice_index_or, None}
use Rattle.dr_report.specs.Reports.{first_group}
use Rattle.dr_report.proofs.groups.owners_of.Given as goal

abbrev pub invariant-loop-group : goal.invariant-loop-group
invariant-loop-group l = record {
  one_each : length l.owners.items ≡ length l.estate.datastores;
  first : (k : ℕ) → k < length l.estate.datastores → slice_index_or l.owners.items k None ≡ first_group (take l.group-index l.estate.groups) k;
}
