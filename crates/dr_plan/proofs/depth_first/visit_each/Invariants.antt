use Rattle.std.proofs.Common.{◌<◌, ℕ}
use Rattle.std.specs.List.{Contains}
use Rattle.dr_groups.specs.Marks.{IsMarked}
use Rattle.dr_plan.specs.Walks.{IsWalk}
use Rattle.dr_plan.proofs.depth_first.visit_each.Given as goal

abbrev pub invariant-loop-machine : goal.invariant-loop-machine
invariant-loop-machine l = record {
  walk : IsWalk l.graph l.seen l.finished.items;
  all : (k : ℕ) → k < l.machine → IsMarked l.seen k;
  ended : (k : ℕ) → IsMarked l.seen k → Contains l.finished.items k;
}
