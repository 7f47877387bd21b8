use Rattle.dr_model.proofs.LeftOut.{left_out_drifts, left_out_before}
use Rattle.dr_model.proofs.laws.drift.drift_keeps_left_out.Goals as goal

pub returns : goal.returns
returns c = λ run kind p q drift. (left_out_drifts run kind p q drift, left_out_before run kind p q drift)
