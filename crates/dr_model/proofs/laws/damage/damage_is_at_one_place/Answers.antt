use Rattle.dr_model.proofs.DamageLaws.{lawful_not_damaged, one_place, no_third}
use Rattle.dr_model.proofs.laws.damage.damage_is_at_one_place.Goals as goal

pub returns-clause-lawful : goal.returns-clause-lawful
returns-clause-lawful c = lawful_not_damaged

pub returns-clause-one : goal.returns-clause-one
returns-clause-one c = one_place

pub returns-clause-no_third : goal.returns-clause-no_third
returns-clause-no_third c = λ file both. no_third file (λ records has lawful. both.0 (records, has, lawful)) both.1
