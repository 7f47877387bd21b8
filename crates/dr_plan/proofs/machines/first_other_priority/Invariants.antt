use Rattle.std.proofs.Common.{◌≡◌, drop, flat_map}
use Rattle.dr_inventory.specs.Names.{first}
use Rattle.dr_inventory.specs.Places.{number_in}
use Rattle.dr_plan.specs.Faults.{other_pairs}
use Rattle.dr_plan.proofs.machines.first_other_priority.Given as goal

abbrev pub invariant-loop-machine : goal.invariant-loop-machine
invariant-loop-machine l = first (flat_map (other_pairs (number_in l.machines) l.row) (drop l.machine-index l.row.machine)) ≡ first (flat_map (other_pairs (number_in l.machines) l.row) l.row.machine)
