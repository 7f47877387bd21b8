-- At which side a step works, which stage it is of, and which run a start is of.
use Rattle.std.specs.Prelude.{ℕ, ◌≡◌, Bool, false, List, Contains}
use Rattle.dr_base.specs.declared.side.Side.{Side}
use Rattle.dr_base.specs.Sides.{same_side}
use Rattle.dr_meaning.specs.Runs.{Run, new, root}
use Rattle.dr_meaning.specs.Lawful.{machine_in_plan}
use Rattle.dr_meaning.specs.Changes.{all_commands_of, HasBegun, StartsMachine}
use Rattle.dr_outside.specs.declared.machine.Placed.{Placed}
use Rattle.dr_outside.specs.Machines.{PortState}
use Rattle.dr_meaning.specs.declared.stage.StageKind.{StageKind}
use Rattle.dr_meaning.specs.Worlds.{World}
use Rattle.dr_wave.specs.declared.slot.Slot.{Slot}
use Rattle.dr_wave.specs.declared.slot.StartWant.{StartWant}
use Rattle.dr_wave.specs.declared.slot.Want.{Want}
use Rattle.dr_wave.specs.Steps.{placed_of}
use Rattle.dr_wave.specs.Waves.{slot_state}

-- whether a step works the machine at this side
abbrev pub works_at : Want → Side → Bool
works_at Want.Nothing side = false
works_at Want.Look side = false
works_at (Want.Start want) side = same_side side want.side
works_at (Want.Stop s) side = same_side side s
works_at (Want.Clear s) side = same_side side s

-- what a stage of this kind wants of a machine at this side, and of a start this placement
abbrev pub IsStageWant : StageKind → Side → Placed → Want → Type 0
IsStageWant kind side wanted Want.Nothing = ⊥
IsStageWant kind side wanted Want.Look = ⊥
IsStageWant kind side wanted (Want.Start want) = (kind ≡ StageKind.Start) × (want.side ≡ side) × (placed_of want ≡ wanted)
IsStageWant kind side wanted (Want.Stop s) = (kind ≡ StageKind.Stop) × (s ≡ side)
IsStageWant kind side wanted (Want.Clear s) = (kind ≡ StageKind.Clear) × (s ≡ side)

-- the outside with the machines in slots by the places of their slots, whatever numbers the slots hold; past the last slot there is no machine
abbrev pub with_slots : {P : Type 0} → (P → PortState) → List (Slot P) → World → World
with_slots state slots world = record world { post = λ m. (slot_state state slots m).post; kept = λ m. (slot_state state slots m).kept }

-- a start is wanted by one of these runs, which has begun to start the machine, with the machine's commands in its plan
pub record IsStartOf (runs : List Run) (machine : ℕ) (want : StartWant) : Type 0 where
  pub run : Run
  pub listed : Contains runs run
  pub commands : want.commands ≡ all_commands_of (machine_in_plan run.plan machine)
  pub rooted : want.root ≡ root run
  pub side : want.side ≡ new run
  pub begun : HasBegun run (StartsMachine machine)

-- what is wanted of a machine is so, where it is a start
abbrev pub IsWantOf : List Run → ℕ → Want → Type 0
IsWantOf runs machine Want.Nothing = Unit {0}
IsWantOf runs machine Want.Look = Unit {0}
IsWantOf runs machine (Want.Start want) = IsStartOf runs machine want
IsWantOf runs machine (Want.Stop side) = Unit {0}
IsWantOf runs machine (Want.Clear side) = Unit {0}
