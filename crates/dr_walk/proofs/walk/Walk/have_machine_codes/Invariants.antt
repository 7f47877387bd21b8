use Rattle.std.specs.Prelude.{◌≡◌, IsTrue, ◌↔◌, take}
use Rattle.std.specs.List.{AllByRecursion}
use Rattle.dr_meaning.specs.Runs.{Run}
use Rattle.dr_walk.specs.Taking.{HasMachineCodes}
use Rattle.dr_walk.specs.Walks.{IsWalkOf}
use Rattle.dr_walk.proofs.walk.Walk.have_machine_codes.Given as goal

abbrev pub invariant-loop-m : goal.invariant-loop-m
invariant-loop-m l = (run : Run) → l.plan ≡ run.plan → IsWalkOf l.self run → IsTrue l.coded ↔ AllByRecursion (HasMachineCodes run) (take l.m-index l.machines)
