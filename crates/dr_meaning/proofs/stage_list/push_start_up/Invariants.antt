use Rattle.std.proofs.Common.{◌≡◌, ◌++◌, ◌-◌}
use Rattle.std.specs.List.{flat_map, range_with_len}
use Rattle.dr_meaning.specs.Stages.{start_priority}
use Rattle.dr_meaning.proofs.stage_list.push_start_up.Given as goal

abbrev pub invariant-loop-priority : goal.invariant-loop-priority
invariant-loop-priority l = l.list.items ≡ l.initial.list.items ++ flat_map (start_priority l.plan) (range_with_len 1 (l.priority - 1))
