use Rattle.dr_replay.proofs.StageAt.{stage_at_none, stage_at_found}
use Rattle.std.proofs.Common.{arith}
use Rattle.dr_replay.proofs.walk.stage_at.Goals as goal

pub returns-in-0 : goal.returns-in-0
returns-in-0 c = stage_at_none _ _ c.in-0.is

pub returns-in_default : goal.returns-in_default
returns-in_default c = stage_at_found _ _ _ (omega arith) c.get.ensures.lookup.1 c.get.ensures.lookup.3
