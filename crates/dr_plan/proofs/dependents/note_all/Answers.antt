use Rattle.std.proofs.Common.{◌≡◌, ◌+◌, ◌↔◌, ◌⊎◌, ℕ, List, map, take, get_or, Vec, Global, subst, arith}
use Rattle.std.specs.List.{Contains}
use Rattle.std.proofs.lemmas.List.{take_more, take_all}
use Rattle.dr_plan.specs.Cycles.{DependsOn}
use Rattle.dr_plan.proofs.DependentLaws.{noted-more}
use Rattle.dr_plan.proofs.dependents.note_all.Goals as goal

pub loop-dependency-preserved : goal.loop-dependency-preserved
loop-dependency-preserved c =
    let f : Vec ℕ Global → List ℕ = λ row. row.items in
    let ds = c.args.dependencies.now in
    let i = c.loop-dependency.dependency-index in
    noted-more (map f c.args.rows.now) (map f c.loop-dependency.rows) (map f c.note.new.rows) (take i ds) (take (i + 1) ds) (get_or ds i 0) c.args.machine
    (take_more ds i 0 c.loop-dependency-test.true) c.loop-dependency.invariant c.in_ok-note.ensures

pub returns : goal.returns
returns c =
    let f : Vec ℕ Global → List ℕ = λ row. row.items in
    let ds = c.args.dependencies.now in
    let i = c.loop-dependency.dependency-index in
    let P : List ℕ → Type 0 = λ xs. (a b : ℕ) → DependsOn (map f c.loop-dependency.rows) a b ↔ (DependsOn (map f c.args.rows.now) a b ⊎ (Contains xs a × (b ≡ c.args.machine))) in
    subst P (take_all i ds (omega arith)) c.loop-dependency.invariant
