use Rattle.std.proofs.Common.{◌≡◌, ◌++◌}
use Rattle.std.specs.List.{flat_map, range_with_len}
use Rattle.dr_report.specs.Reports.{datastore_text}
use Rattle.dr_report.proofs.groups.append_datastores.Given as goal

abbrev pub invariant-loop-datastore : goal.invariant-loop-datastore
invariant-loop-datastore l = l.out.items ≡ l.initial.out.items ++ flat_map (datastore_text l.estate l.labels) (range_with_len 0 l.datastore)
