use Rattle.std.proofs.Common.{[]}
use Rattle.dr_model.proofs.TableLaws.{table-lawful, open_is_last}
use Rattle.dr_meaning.specs.Runs.{runs_of}
use Rattle.dr_model.proofs.laws.runs.open_run_is_last.Goals as goal

pub returns : goal.returns
returns c = λ setting records runs s. rw s.runs_are (λ n group run. open_is_last n group run (runs_of setting s.rest) (table-lawful setting [] s.rest s.lawful tt))
