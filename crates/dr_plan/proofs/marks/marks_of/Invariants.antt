use Rattle.std.proofs.Common.{take}
use Rattle.dr_plan.specs.Lookups.{AreMarks}
use Rattle.dr_plan.proofs.marks.marks_of.Given as goal

abbrev pub invariant-loop-group : goal.invariant-loop-group
invariant-loop-group l = AreMarks l.lists (take l.group-index l.groups) l.count l.marks.items
