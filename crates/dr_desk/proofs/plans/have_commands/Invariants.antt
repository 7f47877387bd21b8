use Rattle.std.proofs.Common.{◌≡◌, false, take}
use Rattle.std.specs.List.{list_any}
use Rattle.dr_desk.specs.Decisions.{has_command}
use Rattle.dr_desk.proofs.plans.have_commands.Given as goal

abbrev pub invariant-loop-machine : goal.invariant-loop-machine
invariant-loop-machine l = list_any has_command (take l.machine-index l.machines) ≡ false
