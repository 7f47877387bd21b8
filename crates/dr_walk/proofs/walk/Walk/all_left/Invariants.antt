use Rattle.std.specs.Prelude.{IsTrue, ◌↔◌, take}
use Rattle.std.specs.List.{AllByRecursion}
use Rattle.dr_meaning.specs.Runs.{Run}
use Rattle.dr_meaning.specs.Meaning.{is_left}
use Rattle.dr_walk.specs.Walks.{IsWalkOf}
use Rattle.dr_walk.proofs.walk.Walk.all_left.Given as goal

abbrev pub invariant-loop-m : goal.invariant-loop-m
invariant-loop-m l = (run : Run) → IsWalkOf l.self run → IsTrue l.all ↔ AllByRecursion (λ m. IsTrue (is_left run m)) (take l.m-index l.machines)
