use Rattle.std.specs.Prelude.{nat_lt}
use Rattle.dr_wave.specs.declared.slot.Want.{Want}
use Rattle.dr_wave.proofs.SlotLaws.{SteppedBy}
use Rattle.dr_wave.proofs.wave.look.Given as goal

abbrev pub invariant-loop-i : goal.invariant-loop-i
invariant-loop-i g l = SteppedBy g.P.Port.tells g.P.Port.state (λ i. nat_lt i l.i) (λ _. Want.Look) l.initial.slots l.slots
