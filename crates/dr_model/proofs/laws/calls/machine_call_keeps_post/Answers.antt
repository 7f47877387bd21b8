use Rattle.dr_model.proofs.StaysExpected.{call_keeps_post}
use Rattle.dr_model.proofs.laws.calls.machine_call_keeps_post.Goals as goal

pub returns : goal.returns
returns c = λ setting records runs s. rw s.runs_are (λ group machine side run stage y z. call_keeps_post setting s.rest group machine side run stage y z s.lawful)
