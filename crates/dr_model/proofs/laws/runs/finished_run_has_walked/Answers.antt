use Rattle.dr_model.proofs.WalkEnds.{may_finish_ends, finished_ends}
use Rattle.dr_model.proofs.laws.runs.finished_run_has_walked.Goals as goal

pub returns-clause-may_be : goal.returns-clause-may_be
returns-clause-may_be c = λ setting records runs s. rw s.runs_are (λ n run machines. may_finish_ends setting s.rest n run machines s.lawful)

pub returns-clause-is : goal.returns-clause-is
returns-clause-is c = λ setting records runs s. rw s.runs_are (λ n run. finished_ends setting s.rest n run s.lawful)
