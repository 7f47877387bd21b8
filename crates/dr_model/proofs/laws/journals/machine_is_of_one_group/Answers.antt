use Rattle.dr_model.proofs.Declared.{one_group}
use Rattle.dr_model.proofs.laws.journals.machine_is_of_one_group.Goals as goal

pub returns : goal.returns
returns c = one_group
