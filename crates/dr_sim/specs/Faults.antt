-- Which calls fail.
use Rattle.std.specs.Prelude.{ℕ, Bool, ◌&&◌, ◌==◌, if◌then◌else◌, List, [], ◌∷◌, Option, Some, None}
use Rattle.dr_base.specs.declared.side.Side.{Side}
use Rattle.dr_outside.specs.declared.sides.Sides.{Sides}
use Rattle.dr_outside.specs.BySide.{at}
use Rattle.dr_sim.specs.declared.faults.ArrayFault.{ArrayFault}
use Rattle.dr_sim.specs.declared.faults.PortFault.{PortFault}
use Rattle.dr_sim.specs.declared.meter.Meter.{Meter}
use Rattle.dr_sim.specs.Meters.{is_spent, next_call}

-- the first listed fault of the call of this number at a side that has a part in it: its side, and how many consistency groups are done first
abbrev pub listed_at : ℕ → Sides Bool → List ArrayFault → Option (Side × ℕ)
listed_at number parts [] = None
listed_at number parts (fault ∷ rest) = if (fault.call == number) && at fault.side parts then Some (fault.side, fault.done) else listed_at number parts rest

-- the fault of an array's next call: at its first side with nothing done, once the fuse is spent, and else as listed
abbrev pub array_fault : Meter → List ArrayFault → Sides Bool → Side → Option (Side × ℕ)
array_fault meter faults parts first = if is_spent meter.fuse then Some (first, 0) else listed_at (next_call meter) parts faults

-- what the first listed fault of the call of this number leaves
abbrev pub listed : ℕ → List PortFault → Option ℕ
listed number [] = None
listed number (fault ∷ rest) = if fault.call == number then Some fault.leaves else listed number rest

-- the fault of the next call of a port or a runner, as what it leaves: 0, as before, once the fuse is spent, and else as listed
abbrev pub port_fault : Meter → List PortFault → Option ℕ
port_fault meter faults = if is_spent meter.fuse then Some 0 else listed (next_call meter) faults
