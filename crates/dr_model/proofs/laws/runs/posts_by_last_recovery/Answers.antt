use Rattle.dr_model.proofs.PostLaws.{posts_by_last}
use Rattle.dr_model.proofs.laws.runs.posts_by_last_recovery.Goals as goal

pub returns : goal.returns
returns c = λ setting records runs s. rw s.runs_are (λ group machine side y. posts_by_last setting s.rest group machine side y s.lawful)
