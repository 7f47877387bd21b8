use Rattle.std.proofs.Common.{◌+◌, ◌*◌, take}
use Rattle.dr_plan.specs.Walks.{IsWalk, WentOn, unmarked}
use Rattle.dr_plan.proofs.depth_first.+walk.Given as goal

abbrev pub decreases-visit : goal.decreases-visit
decreases-visit l = 2 * unmarked l.seen.now

abbrev pub decreases-visit_all : goal.decreases-visit_all
decreases-visit_all l = 2 * unmarked l.seen.now + 1

abbrev pub invariant-visit_all-loop-machine : goal.invariant-visit_all-loop-machine
invariant-visit_all-loop-machine l = record {
  walk : IsWalk l.graph l.seen l.finished.items;
  went_on : WentOn l.graph (take l.machine-index l.machines) l.initial.seen l.initial.finished.items l.seen l.finished.items;
}
