use Rattle.dr_model.proofs.MeaningLaws.{frames_equal}
use Rattle.dr_model.proofs.laws.runs.frames_are_meant.Goals as goal

pub returns : goal.returns
returns c = λ setting records runs s. rw s.runs_are (λ n run machines. frames_equal setting s.rest n run machines s.lawful)
