use Rattle.std.proofs.Common.{ℕ, List, map, Vec, Global, sym, subst}
use Rattle.dr_plan.specs.Cycles.{DependsOn}
use Rattle.dr_plan.proofs.dependents.dependents_of.Goals as goal

pub note_each-requires-clause-none : goal.note_each-requires-clause-none
note_each-requires-clause-none c =
    let f : Vec ℕ Global → List ℕ = λ row. row.items in
    let P : List (Vec ℕ Global) → Type 0 = λ rows. (a b : ℕ) → ¬ DependsOn (map f rows) a b in
    subst P (sym c.deref_mut.ensures.value) c.in_ok-rows.ensures.none
