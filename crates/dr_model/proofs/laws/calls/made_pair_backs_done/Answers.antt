use Rattle.dr_model.proofs.LawSteps.{made_backs}
use Rattle.dr_model.proofs.laws.calls.made_pair_backs_done.Goals as goal

pub returns : goal.returns
returns c = λ setting records runs s. rw s.runs_are (λ group run visit earlier world k call p last going shape undone. made_backs setting s.rest s.lawful group run last going visit earlier shape undone world k call p)
