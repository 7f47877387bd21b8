use Rattle.dr_groups.proofs.FaultLaws.{machine_once}
use Rattle.dr_groups.proofs.laws.machine_is_in_one_group.Goals as goal

pub returns : goal.returns
returns c = machine_once
