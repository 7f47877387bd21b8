use Rattle.dr_model.proofs.DamageLaws.{unlawful_stands, lawful_gates, unlawful_gate}
use Rattle.dr_model.proofs.laws.damage.damage_is_at_the_first_gate.Goals as goal

pub returns-clause-gate : goal.returns-clause-gate
returns-clause-gate c = unlawful_stands

pub returns-clause-before : goal.returns-clause-before
returns-clause-before c = lawful_gates

pub returns-clause-there : goal.returns-clause-there
returns-clause-there c = unlawful_gate
