use Rattle.dr_mappings.proofs.ChoiceLaws.{home_own}
use Rattle.dr_mappings.proofs.laws.own_values_count_at_home.Goals as goal

pub returns : goal.returns
returns c = home_own
