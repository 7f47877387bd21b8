use Rattle.dr_model.proofs.TakenLaws.{stands-lawful}
use Rattle.dr_model.proofs.laws.runs.taken_run_stays.Goals as goal

pub returns-clause-none : goal.returns-clause-none
returns-clause-none c = λ setting records runs s. rw s.runs_are (λ n run at_n. (stands-lawful setting s.rest n run s.lawful at_n).none)

pub returns-clause-stays : goal.returns-clause-stays
returns-clause-stays c = λ setting records runs s. rw s.runs_are (λ n run at_n. (stands-lawful setting s.rest n run s.lawful at_n).some)
