use Rattle.dr_mappings.proofs.ChoiceLaws.{nearest_counts, none_covers}
use Rattle.dr_mappings.proofs.laws.a_folder_is_mapped_by_the_nearest_map.Goals as goal

pub returns-clause-nearest : goal.returns-clause-nearest
returns-clause-nearest c = nearest_counts

pub returns-clause-none : goal.returns-clause-none
returns-clause-none c = none_covers
