use Rattle.std.proofs.Common.{refl, arith}
use Rattle.dr_progress.proofs.KeyLaws.{of_ok}
use Rattle.dr_progress.proofs.FactLaws.{visit_put}
use Rattle.dr_progress.proofs.facts.Facts.visit.Goals as goal

pub returns-clause-puts : goal.returns-clause-puts
returns-clause-puts c = visit_put _ _ _ _ _ _ (of_ok c.insert.result (c.insert.ensures.succeeds (omega (arith, c.requires))) c.insert.ensures.updates) refl refl refl
