use Rattle.std.proofs.Common.{◌≡◌, ◌↔◌, ◌∙◌, ℕ, Bool, List, inl, inr, sym, subst}
use Rattle.dr_groups.specs.Marks.{IsMarked, ListsAscending}
use Rattle.dr_groups.specs.Groups.{IsPairOf}
use Rattle.dr_groups.proofs.RowLaws.{written_back}
use Rattle.dr_groups.proofs.HoldingLaws.{if_ok-weaker, lists_same, pairs_marked}
use Rattle.dr_groups.proofs.holdings.pairs_of.Goals as goal

pub returns : goal.returns
returns c =
    let e = c.args.estate.now in
    let g = c.args.group in
    let marks = c.mark_devices.new.marks in
    let whole : c.deref.result.now ≡ marks = c.deref.ensures.value ∙ sym (written_back _ marks c.in_ok-marks.marks.items (c.mark_devices.auto.marks ∙ c.deref_mut.ensures.len)) in
    let Q : ℕ → List Bool → Type 0 = λ v xs. IsMarked xs v in
    let pairs = pairs_marked e g c.datastores_of.result.now marks c.datastores_of.ensures.named c.mark_devices.ensures.marked
    (λ v marked. elim (c.mark_devices.ensures.no_others v marked) [
      | inl before ↦ absurd (c.in_ok-marks.ensures.none v (subst (Q v) c.deref_mut.ensures.value before))
      | inr among ↦ among
    ]) in
    let P : List Bool → Type 0 = λ xs. (v : ℕ) → IsMarked xs v ↔ IsPairOf e g v in
    let same = subst P (sym whole) pairs in
    if_ok-weaker c.marked_numbers.result _ (λ ns. ListsAscending (IsPairOf e g) ns.items) (λ ns lists. lists_same (IsMarked c.deref.result.now) (IsPairOf e g) ns.items same lists) c.marked_numbers.ensures
