use Rattle.dr_groups.specs.Searches.{MarksBelow}
use Rattle.dr_groups.proofs.shared.mark_groups.Given as goal

abbrev pub invariant-loop-group : goal.invariant-loop-group
invariant-loop-group l = MarksBelow l.estate l.group l.seen l.shared
