use Rattle.dr_model.proofs.LawSteps.{done_sound}
use Rattle.dr_model.proofs.laws.records.done_keeps_sound.Goals as goal

pub returns : goal.returns
returns c = λ setting records runs s. rw s.runs_are (λ world run visit earlier stage. done_sound setting s.rest world run visit earlier stage s.lawful)
