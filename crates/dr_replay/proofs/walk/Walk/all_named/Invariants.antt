use Rattle.std.proofs.Common.{IsTrue, ◌↔◌, take}
use Rattle.std.specs.List.{AllByRecursion}
use Rattle.dr_replay.specs.Values.{run_of}
use Rattle.dr_replay.specs.Following.{NamesIfLeft}
use Rattle.dr_replay.proofs.walk.Walk.all_named.Given as goal

abbrev pub invariant-loop-visit : goal.invariant-loop-visit
invariant-loop-visit l = IsTrue l.named ↔ AllByRecursion (λ v. AllByRecursion (NamesIfLeft (run_of l.self.run.now) l.machines) v.excused.items) (take l.visit-index l.self.visits.items)
