use Rattle.std.proofs.Common.{◌⊎◌, ◌∙◌, ℕ, Bool, List, length, inl, inr, sym, subst, arith}
use Rattle.std.specs.List.{Contains}
use Rattle.dr_groups.proofs.MarkLaws.{marked_within, true_is_not_false}
use Rattle.dr_plan.specs.Cycles.{DependsOn}
use Rattle.dr_plan.specs.Walks.{HasOther, IsDecided}
use Rattle.dr_plan.proofs.ChainLaws.{all-below}
use Rattle.dr_plan.proofs.CycleLaws.{graph-turned, decided-cyclic, decided-plain}
use Rattle.dr_plan.proofs.cycles.decide.Goals as goal
use Rattle.dr_plan.proofs.cycles.decide.Goals.{then-is_cyclic, else-is_cyclic}

pub visit-requires-clause-graph : goal.visit-requires-clause-graph
visit-requires-clause-graph c = graph-turned c.args.graph.now c.args.dependents.now c.requires.turned

pub mark_all-requires : goal.mark_all-requires
mark_all-requires c =
    let walk = c.in_ok-visit.ensures.walk in
    let same = c.deref-then-is_cyclic.ensures.value in
    let P : List ℕ → ℕ → Type 0 = λ xs x. Contains xs x in
    all-below (length c.args.marks.now) c.deref-then-is_cyclic.result.now (λ x listed.
    let member : Contains c.visit.new.finished.items x = let Q : List ℕ → Type 0 = λ xs. Contains xs x in subst Q same listed in
    omega (arith, marked_within c.visit.new.seen x (walk.marked x member), walk.one_each, c.requires.turned.one_each, c.requires.decided.one_mark_each))

pub returns-clause-decided : goal.returns-clause-decided
returns-clause-decided c =
    let g = c.args.graph.now in
    let d = c.args.dependents.now in
    let v = c.args.machine in
    let s0 = c.args.seen.now in
    let m0 = c.args.marks.now in
    let o0 = c.new-members.result.items in
    let s1 = c.visit.new.seen in
    let m1 = c.if-is_cyclic.marks in
    let ms = c.visit.new.finished.items in
    let t = c.requires.turned in
    let decided = c.requires.decided in
    let none = c.new-members.ensures.items in
    let walk = c.in_ok-visit.ensures.walk in
    let went = c.in_ok-visit.ensures.went_on in
    let settled = c.requires.settled in
    let P : List ℕ → Type 0 = λ xs. HasOther xs v ⊎ DependsOn g v v in
    let Q : ℕ → List ℕ → Type 0 = λ k xs. Contains xs k in
    let R : List Bool → Type 0 = λ marks. IsDecided g s1 marks in
    elim c.if-is_cyclic.branch [
      | then-is_cyclic w ↦
          let same = w.deref-then-is_cyclic.ensures.value in
          subst R (sym w.marks-is) (decided-cyclic g d s0 m0 o0 s1 w.mark_all.new.marks ms v t decided none walk went settled
          (subst P c.deref.ensures.value (c.is_cyclic.ensures.0 w.if-is_cyclic.true)) w.mark_all.auto.marks w.mark_all.ensures.kept
          (λ k marked. elim (w.mark_all.ensures.no_others k marked) [ inl before ↦ inl before | inr listed ↦ inr (subst (Q k) same listed) ])
          (λ k listed. w.mark_all.ensures.marked k (subst (Q k) (sym same) listed)))
      | else-is_cyclic w ↦
          decided-plain g d s0 m0 o0 s1 m1 ms v t decided none walk went settled
          (λ either. true_is_not_false (sym (c.is_cyclic.ensures.1 (subst P (sym c.deref.ensures.value) either)) ∙ w.if-is_cyclic.false)) w.marks-is
    ]
