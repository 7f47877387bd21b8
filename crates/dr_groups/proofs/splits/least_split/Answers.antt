use Rattle.std.proofs.Common.{◌∙◌, Bool, List, length, ap, sym, subst}
use Rattle.dr_groups.specs.Searches.{MarksGroup}
use Rattle.dr_groups.proofs.RowLaws.{written_back}
use Rattle.dr_groups.proofs.SplitLaws.{labels_below, none_inside, split_found}
use Rattle.dr_groups.proofs.splits.least_split.Goals as goal

pub mark_outside-requires-clause-within : goal.mark_outside-requires-clause-within
mark_outside-requires-clause-within c = labels_below c.args.estate.now c.args.labels.now _ c.requires.labels (ap length c.deref_mut.ensures.value ∙ c.in_ok-missed.ensures.length)

pub least_pair-requires-clause-within : goal.least_pair-requires-clause-within
least_pair-requires-clause-within c = labels_below c.args.estate.now c.args.labels.now _ c.requires.labels
    (ap length (c.deref-3.ensures.value ∙ sym (written_back _ c.mark_outside.new.missed c.in_ok-missed.missed.items (c.mark_outside.auto.missed ∙ c.deref_mut.ensures.len)))
    ∙ c.mark_outside.auto.missed ∙ ap length c.deref_mut.ensures.value ∙ c.in_ok-missed.ensures.length)

pub returns-clause-closed : goal.returns-clause-closed
returns-clause-closed c = λ none.
    let P : List Bool → Type 0 = λ xs. MarksGroup c.args.estate.now c.args.group xs in
    none_inside c.args.estate.now c.args.group c.args.labels.now c.deref-2.result.now c.requires.sound c.requires.labels
    (subst P (sym c.deref-2.ensures.value) c.in_ok-marks.ensures) (c.least_pair.ensures.none none)

pub returns-clause-split : goal.returns-clause-split
returns-clause-split c =
    let P : List Bool → Type 0 = λ xs. MarksGroup c.args.estate.now c.args.group xs in
    let found = c.least_pair.ensures in
    split_found c.args.estate.now c.args.group c.args.labels.now c.deref-2.result.now c.requires.sound c.requires.labels
    (subst P (sym c.deref-2.ensures.value) c.in_ok-marks.ensures) c.least_pair.result found.inside found.outside found.least_inside found.least_outside
