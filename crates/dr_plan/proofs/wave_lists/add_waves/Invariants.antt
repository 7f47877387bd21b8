use Rattle.std.proofs.Common.{◌≡◌, ◌++◌, drop}
use Rattle.dr_plan.specs.Lists.{items_of, waves_from}
use Rattle.dr_plan.proofs.wave_lists.add_waves.Given as goal

abbrev pub invariant-loop-depth : goal.invariant-loop-depth
invariant-loop-depth l = l.waves.items ++ waves_from l.priority l.depth (drop l.depth (items_of l.lists)) ≡ l.initial.waves.items ++ waves_from l.priority 0 (items_of l.lists)
