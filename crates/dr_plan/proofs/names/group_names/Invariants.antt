use Rattle.std.proofs.Common.{◌≡◌, map, take}
use Rattle.dr_plan.proofs.names.group_names.Given as goal

abbrev pub invariant-loop-group : goal.invariant-loop-group
invariant-loop-group l = l.names.items ≡ map (λ row. row.name) (take l.group-index l.estate.groups)
