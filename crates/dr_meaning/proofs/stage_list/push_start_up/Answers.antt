use Rattle.std.proofs.Common.{arith}
use Rattle.dr_meaning.proofs.StageLists.{push_priorities_add, start_up_whole}
use Rattle.dr_meaning.proofs.stage_list.push_start_up.Goals as goal

pub loop-priority-preserved : goal.loop-priority-preserved
loop-priority-preserved c = push_priorities_add c.args.plan.now c.loop-priority.priority c.args.list.now.items c.loop-priority.list.items c.push_priority.new.list.items c.loop-priority.auto.priority c.loop-priority.invariant c.in_ok-push_priority.ensures

pub returns : goal.returns
returns c = start_up_whole c.args.plan.now c.loop-priority.priority c.args.list.now.items c.loop-priority.list.items (omega arith) (omega (arith, c.loop-priority.auto.priority-end)) c.loop-priority.invariant
