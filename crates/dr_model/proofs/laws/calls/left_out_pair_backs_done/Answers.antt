use Rattle.dr_model.proofs.LawSteps.{left_out_backs}
use Rattle.dr_model.proofs.laws.calls.left_out_pair_backs_done.Goals as goal

pub returns : goal.returns
returns c = λ setting records runs s. rw s.runs_are (λ group run visit earlier world k p last going shape. left_out_backs setting s.rest s.lawful group run last going visit earlier shape world k p)
