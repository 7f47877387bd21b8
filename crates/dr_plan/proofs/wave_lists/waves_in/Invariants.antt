use Rattle.std.proofs.Common.{◌≡◌, ◌-◌, flat_map}
use Rattle.std.specs.List.{range_with_len}
use Rattle.dr_plan.specs.Waves.{waves_at}
use Rattle.dr_plan.proofs.wave_lists.waves_in.Given as goal

abbrev pub invariant-loop-priority : goal.invariant-loop-priority
invariant-loop-priority l = l.waves.items ≡ flat_map (waves_at l.machines) (range_with_len 1 (l.priority - 1))
