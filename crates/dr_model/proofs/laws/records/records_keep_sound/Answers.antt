use Rattle.dr_model.proofs.LawSteps.{plain_sound}
use Rattle.dr_model.proofs.laws.records.records_keep_sound.Goals as goal

pub returns : goal.returns
returns c = λ setting records runs s. rw s.runs_are (λ world item. plain_sound setting s.rest world item s.lawful)
