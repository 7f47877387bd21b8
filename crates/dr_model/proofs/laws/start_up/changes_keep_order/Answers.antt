use Rattle.dr_model.proofs.StartLaws.{in_order-grows}
use Rattle.dr_model.proofs.laws.start_up.changes_keep_order.Goals as goal

pub returns : goal.returns
returns c = in_order-grows
