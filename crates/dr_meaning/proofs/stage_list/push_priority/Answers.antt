use Rattle.dr_meaning.proofs.StageLists.{push_priority_adds}
use Rattle.dr_meaning.proofs.stage_list.push_priority.Goals as goal

pub returns : goal.returns
returns c = push_priority_adds c.args.plan.now c.args.priority c.args.waves.now c.args.list.now.items c.push_steps.new.list.items c.push_starts.new.list.items c.requires.least c.requires.greatest c.requires.waves _ c.as_slice.ensures c.in_ok-push_steps.ensures c.in_ok-push_starts.ensures
