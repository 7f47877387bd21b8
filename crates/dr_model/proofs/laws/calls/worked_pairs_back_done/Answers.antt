use Rattle.dr_model.proofs.LawSteps.{worked_back}
use Rattle.dr_model.proofs.laws.calls.worked_pairs_back_done.Goals as goal

pub returns : goal.returns
returns c = λ setting records runs s. rw s.runs_are (λ run visit earlier old now. worked_back setting s.rest run visit earlier old now s.lawful)
