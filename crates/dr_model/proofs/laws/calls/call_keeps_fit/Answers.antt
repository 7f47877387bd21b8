use Rattle.dr_model.proofs.LawSteps.{call_keeps_fit}
use Rattle.dr_model.proofs.laws.calls.call_keeps_fit.Goals as goal

pub returns : goal.returns
returns c = λ setting records runs s. rw s.runs_are (λ group run stage k p q last going its. call_keeps_fit setting s.rest s.lawful group run last going stage its k p q)
