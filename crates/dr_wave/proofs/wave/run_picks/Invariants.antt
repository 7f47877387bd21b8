use Rattle.std.proofs.Common.{take}
use Rattle.dr_base.specs.Lists.{has}
use Rattle.dr_wave.specs.Waves.{want_at}
use Rattle.dr_wave.proofs.SlotLaws.{SteppedBy}
use Rattle.dr_wave.proofs.wave.run_picks.Given as goal

abbrev pub invariant-loop-n : goal.invariant-loop-n
invariant-loop-n g l = SteppedBy g.P.Port.tells g.P.Port.state (has (take l.n l.picks)) (want_at l.initial.slots) l.initial.slots l.slots
