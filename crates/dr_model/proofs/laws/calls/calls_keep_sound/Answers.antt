use Rattle.dr_model.proofs.CallSound.{call_sound}
use Rattle.dr_model.proofs.Standing.{regular_of}
use Rattle.dr_model.proofs.laws.calls.calls_keep_sound.Goals as goal

pub returns : goal.returns
returns c = λ setting records runs s. rw s.runs_are (λ run stage call old now at_n going its makes calls. call_sound setting s.rest s.lawful (regular_of setting records runs s) run at_n going stage its call makes old now calls)
