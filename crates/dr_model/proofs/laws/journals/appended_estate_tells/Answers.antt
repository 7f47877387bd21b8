use Rattle.dr_model.proofs.FileLaws.{declare_tells}
use Rattle.dr_model.proofs.laws.journals.appended_estate_tells.Goals as goal

pub returns : goal.returns
returns c = declare_tells
