use Rattle.std.proofs.Common.{◌≡◌, List, length}
use Rattle.dr_outside.specs.declared.machine.Kept.{Kept}
use Rattle.dr_lab.specs.KeptText.{BeginsWith, code_with}
use Rattle.dr_lab.proofs.kept_lines.take_lines.Given as goal

abbrev pub invariant-loop-rest : goal.invariant-loop-rest
invariant-loop-rest l = (commands : List Kept) × BeginsWith l.bytes commands l.rest × (l.code ≡ code_with l.fn.before commands l.token)

abbrev pub decreases-loop-rest : goal.decreases-loop-rest
decreases-loop-rest l = length l.rest
