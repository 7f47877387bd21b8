use Rattle.dr_model.proofs.LawSteps.{own_snapshot}
use Rattle.dr_model.proofs.laws.calls.snapshot_is_of_its_test.Goals as goal

pub returns : goal.returns
returns c = λ setting records runs s. rw s.runs_are (λ group run k p last going test. own_snapshot setting s.rest s.lawful group run last going test k p)
