-- Passing machines in an order in which each comes after all that it depends on.
use Rattle.std.specs.Prelude.{ℕ, ◌≡◌, ◌≤◌, ◌+◌, Bool, List, [], map, length, slice_index, slice_index_or}
use Rattle.dr_groups.specs.Marks.{IsMarked}
use Rattle.dr_plan.specs.Cycles.{DependsOn}
use Rattle.dr_plan.specs.Walks.{unmarked}
use Rattle.dr_plan.specs.Waves.{above}

-- machines that were passed are marked and have their depths, and so was all that they depend on; no depth is above their number
pub record IsPassing (graph : List (List ℕ)) (depths : List ℕ) (passed : List Bool) : Type 0 where
  pub one_each : length depths ≡ length graph
  pub one_mark_each : length passed ≡ length graph
  pub right : (machine : ℕ) → IsMarked passed machine → slice_index depths machine ≡ above (map (slice_index depths) (slice_index_or graph machine []))
  pub closed : (machine dependency : ℕ) → IsMarked passed machine → DependsOn graph machine dependency → IsMarked passed dependency
  pub small : (machine : ℕ) → slice_index depths machine + unmarked passed ≤ length graph
