use Rattle.std.proofs.Common.{◌↔◌, ◌<◌, ◌∙◌, ℕ, Bool, List, length, sym, subst}
use Rattle.std.specs.List.{Contains}
use Rattle.dr_groups.specs.Marks.{IsMarked}
use Rattle.dr_groups.proofs.RowLaws.{written_back}
use Rattle.dr_plan.specs.Cycles.{IsOnCycle}
use Rattle.dr_plan.proofs.CycleLaws.{decided-all}
use Rattle.dr_plan.proofs.cycles.marks_of.Goals as goal

pub decide_all-requires-clause-all : goal.decide_all-requires-clause-all
decide_all-requires-clause-all c =
    let P : List ℕ → Type 0 = λ xs. (k : ℕ) → k < length c.args.graph.now → Contains xs k in
    subst P (sym c.deref-2.ensures.value) c.in_ok-order.ensures.all

pub returns-clause-exactly : goal.returns-clause-exactly
returns-clause-exactly c =
    let P : List Bool → Type 0 = λ xs. (k : ℕ) → IsMarked xs k ↔ IsOnCycle c.args.graph.now k in
    let marks = c.decide_all.new.marks in
    subst P (written_back _ marks c.in_ok-marks.marks.items (c.decide_all.auto.marks ∙ c.deref_mut-2.ensures.len))
    (decided-all c.args.graph.now c.decide_all.new.seen marks c.in_ok-decide_all.ensures.decided c.in_ok-decide_all.ensures.all)
