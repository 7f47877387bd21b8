use Rattle.std.proofs.Common.{ℕ, List, is_some, sym, ◌∙◌, ap, subst}
use Rattle.std.proofs.lemmas.Option.{same_Some}
use Rattle.dr_journal.specs.Kept.{SameRecords}
use Rattle.dr_journal.proofs.Laws.{whole_where_open}
use Rattle.dr_journal.proofs.journal.Journal.open.Goals as goal

pub returns-clause-read : goal.returns-clause-read
returns-clause-read g c = λ old reads new reads_new.
    let from = c.trim.ensures.same new (g.met.D.Disk.finds c.trim.new.disk new reads_new) in
    let only = c.in_ok-size.ensures.one from.0 from.1 in
    subst (λ (file : List ℕ). SameRecords file new) (same_Some from.0 old (sym only ∙ reads)) from.2

pub returns-clause-whole : goal.returns-clause-whole
returns-clause-whole g c = whole_where_open _ _ _ _ c.in_ok-end.ensures.open (c.trim.ensures.tells ∙ ap is_some c.synced_length.ensures.same) (returns-clause-read g c)
