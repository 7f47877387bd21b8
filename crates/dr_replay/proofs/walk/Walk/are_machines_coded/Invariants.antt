use Rattle.std.proofs.Common.{IsTrue, ◌↔◌, take}
use Rattle.std.specs.List.{AllByRecursion}
use Rattle.dr_replay.specs.Values.{run_of}
use Rattle.dr_replay.specs.Following.{HasMachineCodes}
use Rattle.dr_replay.proofs.walk.Walk.are_machines_coded.Given as goal

abbrev pub invariant-loop-m : goal.invariant-loop-m
invariant-loop-m l = IsTrue l.coded ↔ AllByRecursion (HasMachineCodes (run_of l.self.run.now)) (take l.m-index l.machines)
