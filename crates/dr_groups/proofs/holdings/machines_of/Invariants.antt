use Rattle.dr_groups.specs.Searches.{IsMachineWithin}
use Rattle.dr_groups.proofs.MarkLaws.{ListsBelow}
use Rattle.dr_groups.proofs.holdings.machines_of.Given as goal

abbrev pub invariant-loop-machine : goal.invariant-loop-machine
invariant-loop-machine l = ListsBelow (IsMachineWithin l.estate l.marks.items) l.machine l.machines.items
