use Rattle.std.proofs.Common.{◌≡◌, map, take}
use Rattle.dr_inventory.specs.Places.{number_in}
use Rattle.dr_plan.specs.Rows.{row_of, wanted_after}
use Rattle.dr_plan.proofs.machines.graph_of.Given as goal

abbrev pub invariant-loop-name : goal.invariant-loop-name
invariant-loop-name l = l.graph.items ≡ map (λ n. map (number_in l.machines) (wanted_after (row_of l.row n))) (take l.name-index l.names)
