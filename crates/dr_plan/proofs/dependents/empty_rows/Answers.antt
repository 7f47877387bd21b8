use Rattle.std.proofs.Common.{ℕ, List, Vec, Global}
use Rattle.dr_plan.proofs.DependentLaws.{rows-none}
use Rattle.dr_plan.proofs.dependents.empty_rows.Goals as goal

pub returns-clause-none : goal.returns-clause-none
returns-clause-none c =
    let f : Vec ℕ Global → List ℕ = λ row. row.items in
    rows-none f c.loop-machine.rows.items c.loop-machine.invariant.empty
