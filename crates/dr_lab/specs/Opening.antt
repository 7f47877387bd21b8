-- The opening state of a site: what stands where there is no file, in a group that protects A.
use Rattle.std.specs.Prelude.{ℕ, false, codes, None, []}
use Rattle.dr_base.specs.declared.side.Side.TheVariants.{A}
use Rattle.dr_outside.specs.declared.sides.Sides.{Sides}
use Rattle.dr_outside.specs.declared.pair.Content.{Content}
use Rattle.dr_outside.specs.declared.pair.Link.TheVariants.{Live}
use Rattle.dr_outside.specs.declared.pair.Pair.{Pair}
use Rattle.dr_outside.specs.declared.machine.Placed.{Placed}
use Rattle.dr_outside.specs.declared.machine.Post.{Post}
use Rattle.dr_outside.specs.declared.machine.Post.TheVariants.{Placeholder, Ready}
use Rattle.dr_outside.specs.BySide.{at, only}
use Rattle.dr_outside.specs.Arrays.{ArrayState}
use Rattle.dr_outside.specs.Machines.{PortState}
use Rattle.dr_outside.specs.Runners.{RunnerState}

-- what both volumes hold at first
abbrev pub opening_content : Content
opening_content = record { line = 0; base = 0; writes = 100 }

-- a pair at first
abbrev pub opening_pair : Pair
opening_pair = record { source = A; link = Live; writable = only A; content = record { a = opening_content; b = opening_content }; snapshot = None }

-- where a machine runs at first
abbrev pub opening_placed : Placed
opening_placed = record { place = record { network = codes "A"; folder = codes "A"; pool = codes "A" }; bubble = false }

-- a machine at first
abbrev pub opening_machine : Sides Post
opening_machine = record { a = Ready opening_placed; b = Placeholder }

-- an array of which the faults alone are known: no content is told, so any state does
abbrev pub untold_array : ℕ → Sides ℕ → ArrayState
untold_array count faults = record { count = count; group = λ i. i; pair = λ i. opening_pair; faults = λ side. at side faults }

-- such a machine
abbrev pub untold_port : Sides ℕ → PortState
untold_port faults = record { post = opening_machine; kept = []; faults = λ side. at side faults }

-- such a runner
abbrev pub untold_runner : ℕ → RunnerState
untold_runner faults = record { kept = []; faults = faults }
