use Rattle.std.proofs.Common.{◌∙◌, ℕ, Bool, List, length, ap, subst, inl, inr}
use Rattle.dr_groups.specs.Marks.{IsMarked}
use Rattle.dr_groups.specs.Searches.{MarksGroup}
use Rattle.dr_groups.proofs.RowLaws.{written_back}
use Rattle.dr_groups.proofs.SplitLaws.{marks_group}
use Rattle.dr_groups.proofs.splits.marks_of.Goals as goal

pub returns : goal.returns
returns c =
    let P : List Bool → Type 0 = λ xs. MarksGroup c.args.estate.now c.args.group xs in
    let Q : ℕ → List Bool → Type 0 = λ d xs. IsMarked xs d in
    let long = c.mark_all.auto.marks ∙ c.deref_mut.ensures.len in
    subst P (written_back _ c.mark_all.new.marks c.in_ok-marks.marks.items long)
    (marks_group c.args.estate.now c.args.group c.datastores_of.result.now c.mark_all.new.marks
    (c.mark_all.auto.marks ∙ ap length c.deref_mut.ensures.value ∙ c.in_ok-marks.ensures.length ∙ ap length c.as_slice.ensures)
    c.datastores_of.ensures.named c.mark_all.ensures.marked
    (λ d marked. elim (c.mark_all.ensures.no_others d marked) [
      | inl before ↦ absurd (c.in_ok-marks.ensures.none d (subst (Q d) c.deref_mut.ensures.value before))
      | inr named ↦ named
    ]))
