use Rattle.std.proofs.Common.{◌≡◌, ◌++◌, take}
use Rattle.dr_meaning.specs.Stages.{steps_before}
use Rattle.dr_meaning.proofs.stage_list.push_steps.Given as goal

abbrev pub invariant-loop-i : goal.invariant-loop-i
invariant-loop-i l = l.list.items ≡ l.initial.list.items ++ steps_before l.priority 1 (take l.i l.steps)
