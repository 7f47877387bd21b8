-- What a step answers after a call of its port.
use Rattle.std.specs.Prelude.{ℕ, ◌≡◌, Result, Ok, Err}
use Rattle.dr_base.specs.declared.side.Side.{Side}
use Rattle.dr_outside.specs.declared.machine.PortFail.{PortFail}
use Rattle.dr_outside.specs.declared.machine.PortFail.TheVariants.{Failed, Wrong, Ran}
use Rattle.dr_wave.specs.declared.slot.Found.{Found}

-- after a call that changes a post: done, failed, or refused with the post that was told
abbrev pub CallEnd : Side → Result (Unit {0}) PortFail → Result (Unit {0}) Found → Type 0
CallEnd side (Ok x) end = end ≡ Ok x
CallEnd side (Err Failed) end = end ≡ Err (Found.Failed side)
CallEnd side (Err (Wrong post)) end = end ≡ Err (Found.Refused side post)
CallEnd side (Err (Ran code)) end = ⊥

-- after a command: its code, whether it ran now or before, or failed
abbrev pub CommandEnd : Side → Result ℕ PortFail → Result ℕ Found → Type 0
CommandEnd side (Ok code) end = end ≡ Ok code
CommandEnd side (Err Failed) end = end ≡ Err (Found.Failed side)
CommandEnd side (Err (Wrong post)) end = ⊥
CommandEnd side (Err (Ran code)) end = end ≡ Ok code
