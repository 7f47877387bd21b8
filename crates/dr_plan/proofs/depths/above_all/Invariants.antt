use Rattle.std.proofs.Common.{◌≡◌, map, take, slice_index}
use Rattle.dr_plan.specs.Waves.{above}
use Rattle.dr_plan.proofs.depths.above_all.Given as goal

abbrev pub invariant-loop-machine : goal.invariant-loop-machine
invariant-loop-machine l = l.least ≡ above (map (slice_index l.depths) (take l.machine-index l.machines))
