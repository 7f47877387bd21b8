use Rattle.dr_model.proofs.FileLaws.{one_told}
use Rattle.dr_model.proofs.laws.journals.told_is_one.Goals as goal

pub returns : goal.returns
returns c = one_told
