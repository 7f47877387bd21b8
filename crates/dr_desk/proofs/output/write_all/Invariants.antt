use Rattle.std.proofs.Common.{length, ◌-◌}
use Rattle.dr_desk.proofs.StreamsLaws.{WritesSome}
use Rattle.dr_desk.proofs.output.write_all.Given as goal

abbrev pub invariant-loop-written : goal.invariant-loop-written
invariant-loop-written g l =
    let sink = g.K.Sink in
    WritesSome sink.tells (sink.faults l.initial.sink) (sink.faults l.sink) (sink.taken l.initial.sink) (sink.taken l.sink) l.bytes l.written

abbrev pub decreases-loop-written : goal.decreases-loop-written
decreases-loop-written g l = length l.bytes - l.written
