use Rattle.std.proofs.Common.{◌≡◌, ◌≤◌, ◌^◌, map, take}
use Rattle.dr_plan.specs.Waves.{above}
use Rattle.dr_plan.proofs.wave_lists.depth_count.Given as goal

abbrev pub invariant-loop-machine : goal.invariant-loop-machine
invariant-loop-machine l = record {
  greatest : l.count ≡ above (map (λ m. m.depth) (take l.machine-index l.machines));
  small : l.count ≤ 2 ^ 32;
}
