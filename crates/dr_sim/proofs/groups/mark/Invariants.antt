use Rattle.dr_sim.specs.Groups.{least_of}
use Rattle.dr_sim.proofs.Marking.{Marked}
use Rattle.dr_sim.proofs.groups.mark.Given as goal

abbrev pub invariant-loop-k : goal.invariant-loop-k
invariant-loop-k l = Marked (least_of l.entries) l.list l.k-index l.groups l.left l.marks
