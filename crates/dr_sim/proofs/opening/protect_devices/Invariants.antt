use Rattle.std.proofs.Common.{◌≡◌, ℕ, take, get_or, if◌then◌else◌}
use Rattle.dr_base.specs.declared.side.Side.TheVariants.{A}
use Rattle.dr_base.specs.Lists.{has}
use Rattle.dr_sim.proofs.opening.protect_devices.Given as goal

abbrev pub invariant-loop-device : goal.invariant-loop-device
invariant-loop-device l = (i : ℕ) → get_or l.sides i A ≡ (if has (take l.device-index l.devices) i then l.side else get_or l.initial.sides i A)
