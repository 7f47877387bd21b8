use Rattle.dr_model.proofs.LawSteps.{finish_sound}
use Rattle.dr_model.proofs.Standing.{regular_of}
use Rattle.dr_model.proofs.laws.records.finish_keeps_sound.Goals as goal

pub returns : goal.returns
returns c = λ setting records runs s. rw s.runs_are (λ world n moment machines. finish_sound setting s.rest s.lawful (regular_of setting records runs s) world n moment machines)
