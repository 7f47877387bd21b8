use Rattle.std.proofs.Common.{◌≡◌, drop}
use Rattle.dr_sim.specs.Faults.{listed_at}
use Rattle.dr_sim.proofs.faults.listed_at.Given as goal

abbrev pub invariant-loop-fault : goal.invariant-loop-fault
invariant-loop-fault l = listed_at l.number l.parts l.faults ≡ listed_at l.number l.parts (drop l.fault-index l.faults)
