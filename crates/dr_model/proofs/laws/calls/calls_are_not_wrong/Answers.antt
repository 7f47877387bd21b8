use Rattle.dr_model.proofs.LawSteps.{not_wrong}
use Rattle.dr_model.proofs.laws.calls.calls_are_not_wrong.Goals as goal

pub returns : goal.returns
returns c = λ setting records runs s. rw s.runs_are (λ run stage call list world now k half. not_wrong setting s.rest run stage call list world now k half s.lawful)
