use Rattle.std.proofs.Common.{length, ap, below_more, arith, is_some}
use Rattle.dr_groups.proofs.SplitLaws.{closed_past}
use Rattle.dr_groups.proofs.splits.first_split.Goals as goal

pub loop-group-preserved : goal.loop-group-preserved
loop-group-preserved c = below_more _ _ c.loop-group.invariant (c.in_ok-split.ensures.closed (ap is_some c.in_default.is))

pub returns-clause-closed : goal.returns-clause-closed
returns-clause-closed c = λ none group. closed_past c.args.estate.now c.loop-group.group group (omega (arith, ap length c.as_slice-group-end.ensures)) c.loop-group.invariant
