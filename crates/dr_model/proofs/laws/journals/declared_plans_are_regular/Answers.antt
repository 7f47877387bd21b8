use Rattle.dr_model.proofs.Declared.{declared_regular}
use Rattle.dr_model.proofs.laws.journals.declared_plans_are_regular.Goals as goal

pub returns : goal.returns
returns c = declared_regular
