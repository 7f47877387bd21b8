use Rattle.dr_meaning.proofs.StageLists.{push_step_adds}
use Rattle.dr_meaning.proofs.stage_list.push_steps.Goals as goal

pub loop-i-preserved : goal.loop-i-preserved
loop-i-preserved c = push_step_adds _ _ _ _ _ _ _ c.loop-i-test.true c.index-steps-i.is c.loop-i.invariant c.in_ok-push_step.ensures
