use Rattle.dr_declared.specs.Missing.{FirstBelow}
use Rattle.dr_declared.proofs.missing.first_unmapped.Given as goal

abbrev pub invariant-loop-group : goal.invariant-loop-group
invariant-loop-group l = FirstBelow l.estate l.members l.group l.first
