use Rattle.dr_groups.specs.Marks.{IsMarked}
use Rattle.dr_groups.proofs.MarkLaws.{ListsBelow}
use Rattle.dr_groups.proofs.marks.marked_numbers.Given as goal

abbrev pub invariant-loop-i : goal.invariant-loop-i
invariant-loop-i l = ListsBelow (IsMarked l.marks) l.i l.numbers.items
