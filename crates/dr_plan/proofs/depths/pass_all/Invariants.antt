use Rattle.std.proofs.Common.{◌<◌, ℕ, get_or}
use Rattle.dr_groups.specs.Marks.{IsMarked}
use Rattle.dr_plan.specs.Passing.{IsPassing}
use Rattle.dr_plan.proofs.depths.pass_all.Given as goal

abbrev pub invariant-loop-machine : goal.invariant-loop-machine
invariant-loop-machine l = record {
  passing : IsPassing l.graph l.depths.items l.passed.items;
  so_far : (k : ℕ) → k < l.machine-index → IsMarked l.passed.items (get_or l.order k 0);
}
