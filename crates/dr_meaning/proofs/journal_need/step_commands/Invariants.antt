use Rattle.std.proofs.Common.{◌≡◌, ◌≤◌, take}
use Rattle.dr_meaning.specs.Need.{step_commands}
use Rattle.dr_meaning.proofs.journal_need.step_commands.Given as goal

abbrev pub invariant-loop-step : goal.invariant-loop-step
invariant-loop-step l = (l.total ≡ step_commands (take l.step-index l.steps)) × (l.total ≤ l.step-index)
