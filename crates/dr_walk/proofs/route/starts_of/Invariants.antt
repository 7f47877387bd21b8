use Rattle.std.proofs.Common.{ℕ, take}
use Rattle.std.specs.HashMap as map
use Rattle.dr_walk.specs.Routes.{same_machine, IsStartOf}
use Rattle.dr_walk.proofs.route.starts_of.Given as goal

abbrev pub invariant-loop-i : goal.invariant-loop-i
invariant-loop-i l = (machine : ℕ) → IsStartOf (take l.i l.stages) machine (map.get same_machine l.starts machine)
