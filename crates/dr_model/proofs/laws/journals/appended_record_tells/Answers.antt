use Rattle.dr_model.proofs.FileLaws.{append_tells}
use Rattle.dr_model.proofs.laws.journals.appended_record_tells.Goals as goal

pub returns : goal.returns
returns c = append_tells
