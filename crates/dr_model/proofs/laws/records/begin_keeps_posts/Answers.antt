use Rattle.dr_model.proofs.PostLaws.{begin_keeps_posts}
use Rattle.dr_model.proofs.laws.records.begin_keeps_posts.Goals as goal

pub returns : goal.returns
returns c = λ setting records runs s. rw s.runs_are (λ n stage group machine side y. begin_keeps_posts setting s.rest n stage group machine side y s.lawful)
