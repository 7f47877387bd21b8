use Rattle.std.proofs.Common.{◌≡◌, drop}
use Rattle.dr_sim.specs.Faults.{listed}
use Rattle.dr_sim.proofs.faults.listed.Given as goal

abbrev pub invariant-loop-fault : goal.invariant-loop-fault
invariant-loop-fault l = listed l.number l.faults ≡ listed l.number (drop l.fault-index l.faults)
