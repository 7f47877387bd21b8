-- How pairs and machines stand before any run, where one side is protected.
use Rattle.std.specs.Prelude.{ℕ, ◌≡◌, ◌≤◌, ◌<◌, false, None}
use Rattle.dr_base.specs.declared.side.Side.{Side}
use Rattle.dr_base.specs.Sides.{other}
use Rattle.dr_outside.specs.declared.pair.Pair.{Pair}
use Rattle.dr_outside.specs.declared.pair.Link.TheVariants.{Live}
use Rattle.dr_outside.specs.declared.machine.Post.{Post}
use Rattle.dr_outside.specs.declared.machine.Post.TheVariants.{Placeholder, Off, On, Ready}
use Rattle.dr_outside.specs.BySide.{at, only}
use Rattle.dr_outside.specs.Pairs.{Frame, frame_of}
use Rattle.dr_outside.specs.Arrays.{ArrayState}
use Rattle.dr_outside.specs.Machines.{PortState}

-- the frame of a pair that replicates from the protected side, writable there alone, without snapshot
abbrev pub opening_frame : Side → Frame
opening_frame protected = record { source = protected; link = Live; writable = only protected; snapshot = None }

-- a pair before any run: its contents have one line, and the target no more writes than the source
pub record IsOpeningPair (protected : Side) (pair : Pair) : Type 0 where
  pub frame : frame_of pair ≡ opening_frame protected
  pub line : (at (other protected) pair.content).line ≡ (at protected pair.content).line
  pub behind : (at (other protected) pair.content).writes ≤ (at protected pair.content).writes

-- ready outside a bubble, in any placement
abbrev pub IsInService : Post → Type 0
IsInService Placeholder = ⊥
IsInService (Off placed) = ⊥
IsInService (On placed) = ⊥
IsInService (Ready placed) = placed.bubble ≡ false

-- a machine before any run: in service at the protected side, a placeholder at the other
pub record IsOpeningMachine (protected : Side) (machine : PortState) : Type 0 where
  pub here : IsInService (at protected machine.post)
  pub there : at (other protected) machine.post ≡ Placeholder

-- each pair of an array is so
abbrev pub AreOpeningPairs : Side → ArrayState → Type 0
AreOpeningPairs protected array = (i : ℕ) → i < array.count → IsOpeningPair protected (array.pair i)

-- each of so many machines is so
abbrev pub AreOpeningMachines : Side → ℕ → (ℕ → PortState) → Type 0
AreOpeningMachines protected count machine = (i : ℕ) → i < count → IsOpeningMachine protected (machine i)
