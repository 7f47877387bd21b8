use Rattle.dr_groups.proofs.FaultLaws.{pair_once}
use Rattle.dr_groups.proofs.laws.pair_is_in_one_group.Goals as goal

pub returns : goal.returns
returns c = pair_once
