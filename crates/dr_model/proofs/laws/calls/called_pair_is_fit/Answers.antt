use Rattle.dr_model.proofs.LawSteps.{called_fit}
use Rattle.dr_model.proofs.laws.calls.called_pair_is_fit.Goals as goal

pub returns : goal.returns
returns c = λ setting records runs s. rw s.runs_are (λ group run stage k call p last going its. called_fit setting s.rest s.lawful group run last going stage its k p call)
