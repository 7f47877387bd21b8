use Rattle.std.proofs.Common.{◌≡◌, [], length}
use Rattle.std.specs.List.{All}
use Rattle.dr_plan.proofs.dependents.empty_rows.Given as goal

abbrev pub invariant-loop-machine : goal.invariant-loop-machine
invariant-loop-machine l = record {
  one_each : length l.rows.items ≡ l._machine;
  empty : All (λ row. row.items ≡ []) l.rows.items;
}
