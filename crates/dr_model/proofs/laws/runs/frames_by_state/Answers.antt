use Rattle.dr_model.proofs.ChainLaws.{frames_by_state}
use Rattle.dr_model.proofs.SomeFrame.{opening_expected}
use Rattle.dr_model.proofs.laws.runs.frames_by_state.Goals as goal

pub returns-clause-only : goal.returns-clause-only
returns-clause-only c = λ setting records runs s. rw s.runs_are (λ group y. frames_by_state setting s.rest group y s.lawful)

pub returns-clause-exactly : goal.returns-clause-exactly
returns-clause-exactly c = λ setting records runs s. rw s.runs_are (λ group. opening_expected setting s.rest group s.lawful)
