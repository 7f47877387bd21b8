use Rattle.std.proofs.Common.{◌≡◌, map, take}
use Rattle.dr_plan.proofs.names.row_names.Given as goal

abbrev pub invariant-loop-machine : goal.invariant-loop-machine
invariant-loop-machine l = l.names.items ≡ map (λ row. row.name) (take l.machine-index l.row.machine)
