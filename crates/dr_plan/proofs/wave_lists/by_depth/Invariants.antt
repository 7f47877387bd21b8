use Rattle.std.proofs.Common.{◌≡◌, map, take}
use Rattle.std.specs.List.{range_with_len}
use Rattle.dr_plan.specs.Waves.{machines_at}
use Rattle.dr_plan.specs.Lists.{items_of}
use Rattle.dr_plan.proofs.wave_lists.by_depth.Given as goal

abbrev pub invariant-loop-machine : goal.invariant-loop-machine
invariant-loop-machine l = items_of l.lists.items ≡ map (machines_at (take l.machine-index l.machines) l.priority) (range_with_len 0 l.count)
