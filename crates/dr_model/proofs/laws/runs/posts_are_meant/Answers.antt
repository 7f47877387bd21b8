use Rattle.dr_model.proofs.LawSteps.{posts_within}
use Rattle.dr_model.proofs.MeaningLaws.{posts_equal}
use Rattle.dr_model.proofs.Regular.{as_entry}
use Rattle.dr_model.proofs.Standing.{regular_of}
use Rattle.dr_model.proofs.laws.runs.posts_are_meant.Goals as goal

pub returns-clause-within : goal.returns-clause-within
returns-clause-within c = λ setting records runs s. rw s.runs_are (λ n run machines. posts_within setting s.rest n run machines s.lawful)

pub returns-clause-equal : goal.returns-clause-equal
returns-clause-equal c = λ setting records runs s. rw s.runs_are (λ n run machines at_n may m entry place side. posts_equal setting s.rest n run machines s.lawful at_n may m (as_entry run.plan m entry) place side (λ old failover forced. (regular_of setting records runs s)))
