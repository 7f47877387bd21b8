use Rattle.std.proofs.Common.{sym, ◌∙◌}
use Rattle.dr_model.proofs.laws.foreign.fit_machine_is_not_refused.Goals as goal

pub returns : goal.returns
returns g = λ call side old now found fit step. let wrong = sym step.0 ∙ fit in cc
