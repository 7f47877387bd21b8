use Rattle.std.specs.Prelude.{◌≡◌, false, IsTrue, ◌↔◌, take}
use Rattle.std.specs.List.{AllByRecursion}
use Rattle.dr_meaning.specs.Runs.{Run}
use Rattle.dr_meaning.specs.Meaning.{is_left}
use Rattle.dr_walk.specs.Walks.{IsWalkOf}
use Rattle.dr_walk.proofs.walk.Walk.none_left.Given as goal

abbrev pub invariant-loop-d : goal.invariant-loop-d
invariant-loop-d l = (run : Run) → IsWalkOf l.self run → IsTrue l.none ↔ AllByRecursion (λ d. is_left run d ≡ false) (take l.d-index l.machines)
