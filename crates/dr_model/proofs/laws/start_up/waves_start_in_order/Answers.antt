use Rattle.dr_model.proofs.StartLaws.{waves_in_order}
use Rattle.dr_model.proofs.Regular.{as_entry}
use Rattle.dr_model.proofs.laws.start_up.waves_start_in_order.Goals as goal

pub returns : goal.returns
returns c = λ setting records runs s. rw s.runs_are (λ group run visit earlier m y last going up shape kind entry. waves_in_order setting s.rest group run visit earlier m y s.lawful last going up shape kind (as_entry run.plan m entry))
