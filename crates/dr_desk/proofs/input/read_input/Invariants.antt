use Rattle.std.proofs.Common.{length, ◌-◌}
use Rattle.dr_desk.proofs.StreamsLaws.{ReadsSome}
use Rattle.dr_desk.proofs.input.read_input.Given as goal

abbrev pub invariant-loop-source : goal.invariant-loop-source
invariant-loop-source g l =
    let source = g.S.Source in
    ReadsSome source.tells (source.faults l.initial.source) (source.faults l.source) (source.left l.initial.source) (source.left l.source) l.bytes.items

abbrev pub decreases-loop-source : goal.decreases-loop-source
decreases-loop-source g l = 4194305 - length l.bytes.items
