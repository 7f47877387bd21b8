use Rattle.dr_mappings.proofs.ChoiceLaws.{one_counts, none_leads}
use Rattle.dr_mappings.proofs.laws.a_name_is_mapped_by_its_one_map.Goals as goal

pub returns-clause-one : goal.returns-clause-one
returns-clause-one c = one_counts

pub returns-clause-none : goal.returns-clause-none
returns-clause-none c = none_leads
