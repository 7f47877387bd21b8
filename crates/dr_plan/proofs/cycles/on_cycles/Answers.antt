use Rattle.std.proofs.Common.{◌↔◌, ℕ, Bool, List, sym, subst}
use Rattle.dr_groups.specs.Marks.{IsMarked, ListsAscending}
use Rattle.dr_groups.proofs.HoldingLaws.{if_ok-weaker, lists_same}
use Rattle.dr_plan.specs.Cycles.{IsOnCycle}
use Rattle.dr_plan.proofs.cycles.on_cycles.Goals as goal

pub returns : goal.returns
returns c =
    let g = c.args.graph.now in
    let P : List Bool → Type 0 = λ xs. (k : ℕ) → IsMarked xs k ↔ IsOnCycle g k in
    let same = subst P (sym c.deref.ensures.value) c.in_ok-marks.ensures.exactly in
    if_ok-weaker c.marked_numbers.result _ (λ ns. ListsAscending (IsOnCycle g) ns.items) (λ ns lists. lists_same (IsMarked c.deref.result.now) (IsOnCycle g) ns.items same lists) c.marked_numbers.ensures
