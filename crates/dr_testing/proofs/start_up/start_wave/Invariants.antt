use Rattle.dr_outside.specs.Machines.{machine_at}
use Rattle.dr_testing.specs.Placing.{wanted_place}
use Rattle.dr_testing.proofs.StartLaws.{TriedUpTo}
use Rattle.dr_testing.proofs.start_up.start_wave.Given as goal

abbrev pub invariant-loop-n : goal.invariant-loop-n
invariant-loop-n g l =
    TriedUpTo l.wave (wanted_place l.estate) g.P.Port.tells (machine_at g.P.Port.state l.initial.ports) l.n l.unstarted.failed l.unstarted.refused (machine_at g.P.Port.state l.ports)
