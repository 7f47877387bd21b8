use Rattle.std.proofs.Common.{◌∙◌, ℕ, List, length, ap, sym, subst, arith}
use Rattle.dr_groups.specs.Trees.{IsWithinClasses}
use Rattle.dr_groups.specs.Links.{AreLabels}
use Rattle.dr_groups.proofs.TreeLaws.{singles-within}
use Rattle.dr_groups.proofs.RowLaws.{written_back}
use Rattle.dr_groups.proofs.labels.labels_of.Goals as goal

pub label-requires-clause-within : goal.label-requires-clause-within
label-requires-clause-within c =
    let P : List ℕ → Type 0 = λ xs. IsWithinClasses c.args.estate.now xs in
    let single = c.in_ok-parents.ensures in
    let counted = ap length c.as_slice.ensures in
    subst P (sym c.deref_mut.ensures.value) (singles-within c.args.estate.now c.in_ok-parents.parents.items (single.length ∙ counted) single.forest
    (λ k below. single.apart k (omega (arith, counted))))

pub returns : goal.returns
returns c =
    let P : List ℕ → Type 0 = λ xs. AreLabels c.args.estate.now xs in
    subst P (written_back _ c.label.new.parents c.in_ok-parents.parents.items (c.label.auto.parents ∙ c.deref_mut.ensures.len)) c.label.ensures
