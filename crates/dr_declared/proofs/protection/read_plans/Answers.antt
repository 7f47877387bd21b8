use Rattle.std.proofs.Common.{ap, is_some}
use Rattle.dr_declared.proofs.protection.read_plans.Goals as goal

pub returns-in-None-clause-placed : goal.returns-in-None-clause-placed
returns-in-None-clause-placed c = c.first_unmapped.ensures.none (ap is_some c.in-None.is)
