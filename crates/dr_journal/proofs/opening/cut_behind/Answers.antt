use Rattle.std.proofs.Common.{◌∙◌, refl}
use Rattle.dr_journal.proofs.OpenedFile.{trimmed_same, trimmed, trimmed_already}
use Rattle.dr_journal.proofs.opening.cut_behind.Goals as goal

pub returns-then-gate-size-clause-open : goal.returns-then-gate-size-clause-open
returns-then-gate-size-clause-open g c = trimmed_already _ _ _ c.requires.small c.requires.one c.requires.closes _ _ _ refl refl (λ f here. here) (λ f reads. c.if-gate-size.true ∙ c.requires.size f reads)

pub returns-in_err-cut-clause-same : goal.returns-in_err-cut-clause-same
returns-in_err-cut-clause-same g c = trimmed_same _ _ _ _ c.requires.small c.requires.one c.requires.closes c.cut.ensures.images

pub returns-in_err-sync-clause-same : goal.returns-in_err-sync-clause-same
returns-in_err-sync-clause-same g c = λ f here. trimmed_same _ _ _ _ c.requires.small c.requires.one c.requires.closes c.cut.ensures.images f (c.sync.ensures.images f here)

pub returns-clause-same : goal.returns-clause-same
returns-clause-same g c = λ f here. trimmed_same _ _ _ _ c.requires.small c.requires.one c.requires.closes c.cut.ensures.images f (c.sync.ensures.images f here)

pub returns-clause-open : goal.returns-clause-open
returns-clause-open g c = trimmed _ _ _ _ c.requires.small c.requires.one c.requires.closes c.cut.ensures.images _ _ _ _ refl c.in_ok-cut.ensures.cut c.sync.ensures.same c.in_ok-sync.ensures.one
