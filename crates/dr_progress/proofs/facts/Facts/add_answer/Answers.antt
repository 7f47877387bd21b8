use Rattle.std.proofs.Common.{refl, arith}
use Rattle.dr_progress.proofs.KeyLaws.{of_ok}
use Rattle.dr_progress.proofs.FactLaws.{answer_put}
use Rattle.dr_progress.proofs.QuietLaws.{answer_keeps, puts_answer_only}
use Rattle.dr_progress.proofs.facts.Facts.add_answer.Goals as goal

pub returns-clause-kept : goal.returns-clause-kept
returns-clause-kept c = λ progress log kept. answer_keeps _ _ _ _ _ _ _ (answer_put _ _ _ _ _ (of_ok c.insert.result (c.insert.ensures.succeeds (omega (arith, c.requires))) c.insert.ensures.updates) refl refl refl) kept

pub returns-clause-others : goal.returns-clause-others
returns-clause-others c = puts_answer_only _ _ _ _ _ (answer_put _ _ _ _ _ (of_ok c.insert.result (c.insert.ensures.succeeds (omega (arith, c.requires))) c.insert.ensures.updates) refl refl refl)
