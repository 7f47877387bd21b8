use Rattle.dr_walk.proofs.TakingLaws.{cause_alone}
use Rattle.dr_walk.proofs.walk.Walk.is_cause_among.Goals as goal

pub returns-then-none_left : goal.returns-then-none_left
returns-then-none_left c = λ run w. cause_alone run c.args.after.now c.args.machine c.args.by ((c.none_left.ensures run w).0 c.if-none_left.true)
