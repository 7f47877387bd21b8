use Rattle.std.proofs.Common.{◌≡◌, ◌↔◌, ◌⊎◌, ℕ, map, take}
use Rattle.std.specs.List.{Contains}
use Rattle.dr_plan.specs.Cycles.{DependsOn}
use Rattle.dr_plan.proofs.dependents.note_all.Given as goal

abbrev pub invariant-loop-dependency : goal.invariant-loop-dependency
invariant-loop-dependency l = (a b : ℕ) → DependsOn (map (λ row. row.items) l.rows) a b ↔ (DependsOn (map (λ row. row.items) l.initial.rows) a b ⊎ (Contains (take l.dependency-index l.dependencies) a × (b ≡ l.machine)))
