use Rattle.std.proofs.Common.{◌≡◌, ◌+◌, ◌++◌, drop}
use Rattle.dr_report.specs.Reports.{steps_text}
use Rattle.dr_report.proofs.preview.append_steps.Given as goal

abbrev pub invariant-loop-i : goal.invariant-loop-i
invariant-loop-i l = l.out.items ++ steps_text l.priority (l.i + 1) (drop l.i l.steps) ≡ l.initial.out.items ++ steps_text l.priority 1 l.steps
