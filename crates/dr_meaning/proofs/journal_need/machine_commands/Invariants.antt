use Rattle.std.proofs.Common.{◌≡◌, ◌≤◌, ◌*◌, take}
use Rattle.dr_meaning.specs.Need.{machine_commands}
use Rattle.dr_meaning.proofs.journal_need.machine_commands.Given as goal

abbrev pub invariant-loop-machine : goal.invariant-loop-machine
invariant-loop-machine l = (l.total ≡ machine_commands (take l.machine-index l.machines)) × (l.total ≤ 4 * l.machine-index)
