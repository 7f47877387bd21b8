use Rattle.dr_model.proofs.PostLaws.{stands_as_wanted}
use Rattle.dr_model.proofs.laws.runs.posts_stand_as_wanted.Goals as goal

pub returns : goal.returns
returns c = λ setting records runs s. rw s.runs_are (λ group machine run y. stands_as_wanted setting s.rest group machine run y s.lawful)
