use Rattle.std.specs.Prelude.{◌≡◌, ◌≤◌, true, IsTrue, ◌↔◌, take}
use Rattle.std.specs.List.{AllByRecursion}
use Rattle.dr_meaning.specs.Runs.{Run}
use Rattle.dr_meaning.specs.Meaning.{is_left}
use Rattle.dr_walk.specs.Walks.{IsWalkOf}
use Rattle.dr_walk.proofs.walk.Walk.none_left_before.Given as goal

abbrev pub invariant-loop-d : goal.invariant-loop-d
invariant-loop-d l = (run : Run) → IsWalkOf l.self run → IsTrue l.none ↔ AllByRecursion (λ d. is_left run d ≡ true → l.by ≤ d) (take l.d-index l.machines)
