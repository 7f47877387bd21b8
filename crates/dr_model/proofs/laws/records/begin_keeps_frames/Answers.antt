use Rattle.dr_model.proofs.StaysExpected.{begin_keeps_frames}
use Rattle.dr_model.proofs.laws.records.begin_keeps_frames.Goals as goal

pub returns : goal.returns
returns c = λ setting records runs s. rw s.runs_are (λ n stage group y. begin_keeps_frames setting s.rest n stage group y s.lawful)
