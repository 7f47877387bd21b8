use Rattle.dr_model.proofs.MayFinishLaws.{done_may_be_finished}
use Rattle.dr_model.proofs.Standing.{regular_of}
use Rattle.dr_model.proofs.laws.runs.done_run_may_be_finished.Goals as goal

pub returns : goal.returns
returns c = λ setting records runs s. rw s.runs_are (λ n run. done_may_be_finished setting s.rest n run s.lawful (regular_of setting records runs s))
