use Rattle.std.proofs.Common.{◌<◌, ◌↔◌, ℕ, map}
use Rattle.dr_plan.specs.Cycles.{DependsOn}
use Rattle.dr_plan.proofs.dependents.note_each.Given as goal

abbrev pub invariant-loop-machine : goal.invariant-loop-machine
invariant-loop-machine l = (a b : ℕ) → DependsOn (map (λ row. row.items) l.rows) a b ↔ ((b < l.machine) × DependsOn l.graph b a)
