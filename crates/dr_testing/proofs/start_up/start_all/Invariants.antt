use Rattle.dr_outside.specs.Machines.{machine_at}
use Rattle.dr_testing.specs.Placing.{wanted_place}
use Rattle.dr_testing.proofs.WaveLaws.{StartedBelow}
use Rattle.dr_testing.proofs.start_up.start_all.Given as goal

abbrev pub invariant-loop-n : goal.invariant-loop-n
invariant-loop-n g l =
    StartedBelow l.waves (wanted_place l.estate) g.P.Port.tells l.n (machine_at g.P.Port.state l.initial.ports) (machine_at g.P.Port.state l.ports)
