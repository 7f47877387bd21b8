use Rattle.dr_model.proofs.MachineSound.{machines_sound}
use Rattle.dr_model.proofs.Standing.{regular_of}
use Rattle.dr_model.proofs.laws.calls.machines_keep_sound.Goals as goal

pub returns : goal.returns
returns c = λ setting records runs s. rw s.runs_are (λ run stage old now at_n going its calls. machines_sound setting s.rest s.lawful (regular_of setting records runs s) run at_n going stage its old now calls)
