use Rattle.std.proofs.Common.{◌≡◌, ℕ, Some, if◌then◌else◌, take}
use Rattle.std.specs.HashMap as map
use Rattle.dr_base.specs.Lists.{has}
use Rattle.dr_walk.specs.Routes.{same_machine}
use Rattle.dr_walk.proofs.route.put_wave.Given as goal

abbrev pub invariant-loop-machine : goal.invariant-loop-machine
invariant-loop-machine l = (m : ℕ) → map.get same_machine l.starts m ≡ (if has (take l.machine-index l.machines) m then Some l.stage else map.get same_machine l.initial.starts m)
