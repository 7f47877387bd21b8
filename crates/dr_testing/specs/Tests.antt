-- What one test of a plan leaves of the site, and when each of its answers comes.
use Rattle.std.specs.Prelude.{ℕ, ◌≡◌, ◌+◌, ◌<◌, ◌≤◌, Bool, true, false, List, length, is_none, All}
use Rattle.dr_base.specs.declared.side.Side.{Side}
use Rattle.dr_base.specs.declared.side.Side.TheVariants.{A, B}
use Rattle.dr_base.specs.Sides.{other, same_side}
use Rattle.dr_base.specs.Causes.{Rose}
use Rattle.dr_base.specs.declared.answer.Answer.{Answer}
use Rattle.dr_base.specs.declared.answer.Answer.TheVariants.{Done, Refused, ArrayFault, PortFault, NoMemory, Foreign}
use Rattle.dr_base.specs.declared.answer.Thing.TheVariants.{Pair as PairThing, Machine as MachineThing}
use Rattle.dr_base.specs.declared.refusal.Refusal.TheVariants.{NoSlot}
use Rattle.dr_base.specs.declared.refusal.SlotKind.TheVariants.{Machines, Pairs}
use Rattle.dr_inventory.specs.declared.estate.Estate.{Estate}
use Rattle.dr_inventory.specs.Sound.{IsSoundEstate}
use Rattle.dr_plan.specs.declared.plan.Plan.{Plan}
use Rattle.dr_plan.specs.Orders.{IsOrdered}
use Rattle.dr_plan.specs.Waves.{waves_of}
use Rattle.dr_outside.specs.declared.machine.Post.TheVariants.{Placeholder}
use Rattle.dr_outside.specs.declared.pair.Half.{Half}
use Rattle.dr_outside.specs.declared.pair.Pair.{Pair}
use Rattle.dr_outside.specs.declared.array.ArrayCall.TheVariants.{TestStart}
use Rattle.dr_outside.specs.Pairs.{Drift, half, target, is_fit}
use Rattle.dr_base.specs.Lists.{has}
use Rattle.dr_outside.specs.Arrays.{ArrayState, IsPairList}
use Rattle.dr_outside.specs.Machines.{PortState, machine_at}
use Rattle.dr_meaning.specs.Codes.{bit, half_code, told_by_refusal}
use Rattle.dr_meaning.specs.Opening.{AreOpeningPairs, AreOpeningMachines}
use Rattle.dr_meaning.specs.StartUp.{PlanInOrder}
use Rattle.dr_meaning.specs.Testing.{DriftsButSnapshot, HasTestSnapshot, IsTestedMachine}
use Rattle.dr_testing.specs.declared.start_up.StartEnd.{StartEnd}
use Rattle.dr_testing.specs.declared.start_up.StartEnd.TheVariants.{Done as EndDone, Failed as EndFailed, Refused as EndRefused}
use Rattle.dr_testing.specs.Storage.{AreFit}
use Rattle.dr_testing.specs.Placing.{wanted_place, wanted_at, wave_of, is_planned, IsPlaced}
use Rattle.dr_testing.specs.Starts.{ChangesAtB, StandsAsWanted, FailedAt, TriedAt, IsRefusal, ToldRefusal, IsFirstRefused}

-- A plan of this estate that a test can run: its pairs and its machines are the estate's and ascend, dependencies come before their machines, and each machine has its place.
pub record IsTestable (estate : Estate) (plan : Plan) : Type 0 where
  pub sound : IsSoundEstate estate
  pub ordered : IsOrdered plan
  pub pairs : IsPairList (length estate.devices) plan.pairs
  pub machines : All (λ m. m.machine < length estate.machines) plan.machines
  pub placed : All (λ m. IsPlaced estate m.machine) plan.machines

-- the array and the machines at one moment; how many machines have a port
pub record Outside : Type 0 where
  pub array : ArrayState
  pub slots : ℕ
  pub machine : ℕ → PortState

-- the site of an array and ports
abbrev pub outside : {A P : Type 0} → (A → ArrayState) → (P → PortState) → A → List P → Outside
outside array_state port_state array ports =
    record { array = array_state array; slots = length ports; machine = machine_at port_state ports }

-- the pairs are as before any run, where A is protected
abbrev pub HasOpeningPairs : Outside → Type 0
HasOpeningPairs outside = AreOpeningPairs A outside.array

-- the machines are as before any run, where A is protected
abbrev pub HasOpeningMachines : Outside → Type 0
HasOpeningMachines outside = AreOpeningMachines A outside.slots outside.machine

-- after a finished test: the plan's pairs have the snapshots of run 1, and all others drifted
pub record AreTestedPairs (plan : Plan) (old new : ℕ → Pair) : Type 0 where
  pub tested : (i : ℕ) → has plan.pairs i ≡ true → HasTestSnapshot 1 (old i) (new i)
  pub others : (i : ℕ) → has plan.pairs i ≡ false → Drift (old i) (new i)

-- after a failed call of the array: each consistency group of the plan's pairs has the snapshots of run 1, or drifted alone
pub record AreTestedByGroup (plan : Plan) (group : ℕ → ℕ) (old new : ℕ → Pair) : Type 0 where
  pub done : ℕ → Bool
  pub tested : (i : ℕ) → has plan.pairs i ≡ true → done (group i) ≡ true → HasTestSnapshot 1 (old i) (new i)
  pub left : (i : ℕ) → has plan.pairs i ≡ true → done (group i) ≡ false → Drift (old i) (new i)

-- after a finished test: the plan's machines are ready at B, each in a bubble at its own placement, and all others are as they were
pub record AreTestedMachines (estate : Estate) (plan : Plan) (old new : ℕ → PortState) : Type 0 where
  pub tested : (i : ℕ) → is_planned plan i ≡ true → IsTestedMachine B (wanted_at estate i) (old i) (new i)
  pub others : (i : ℕ) → is_planned plan i ≡ false → new i ≡ old i

-- at every exit: each pair differs by drift and by its snapshot alone, one that isn't the plan's by drift alone
pub record KeepsPairs (plan : Plan) (old new : ℕ → Pair) : Type 0 where
  pub all : (i : ℕ) → DriftsButSnapshot (old i) (new i)
  pub others : (i : ℕ) → has plan.pairs i ≡ false → Drift (old i) (new i)

-- at every exit: of each machine only the post at B differs, and one that isn't the plan's is as it was
pub record KeepsMachines (plan : Plan) (old new : ℕ → PortState) : Type 0 where
  pub all : (i : ℕ) → ChangesAtB (old i) (new i)
  pub others : (i : ℕ) → is_planned plan i ≡ false → new i ≡ old i

-- at every exit: the plan's machines are placeholders at B or stand there as wanted, and where one was started, each of its dependencies and each machine of an earlier priority is ready
pub record AreInOrder (estate : Estate) (plan : Plan) (machine : ℕ → PortState) : Type 0 where
  pub stand : (i : ℕ) → is_planned plan i ≡ true → StandsAsWanted (wanted_at estate i) (machine i).post.b
  pub order : PlanInOrder B (wanted_at estate) plan machine

-- each machine of the plan is a placeholder at B
abbrev pub ArePlaceholders : Plan → (ℕ → PortState) → Type 0
ArePlaceholders plan machine = (i : ℕ) → is_planned plan i ≡ true → (machine i).post.b ≡ Placeholder

-- the code of a pair's half before any run, where A is protected: writable at A alone
abbrev pub opening_code : Side → ℕ
opening_code side = bit 4 (same_side side A) + bit 8 (same_side side B)

-- the code of a target's half that a refused call told; no snapshot is wanted
abbrev pub refused_code : Half → ℕ
refused_code half = told_by_refusal (half_code (other half.source) (is_none half.snapshot) half)

-- a pair of the plan that the array refused, with the codes of its target's half
pub record IsRefusedPair (plan : Plan) (pair wanted found : ℕ) : Type 0 where
  pub listed : has plan.pairs pair ≡ true
  pub half : Half
  pub want : wanted ≡ opening_code (other half.source)
  pub is : found ≡ refused_code half

-- The machine that failed is the least of the first wave at which one failed: its count rose, and no machine of a later wave was touched; from the opening state each other machine of its wave was tried.
pub record IsPortFault (tells : Type 0) (slots : ℕ) (estate : Estate) (plan : Plan) (old new : ℕ → PortState) (machine : ℕ) : Type 0 where
  pub planned : is_planned plan machine ≡ true
  pub failed : FailedAt (waves_of plan) old new machine
  pub tried : tells → AreOpeningMachines A slots old → TriedAt (waves_of plan) (wanted_at estate) old new machine

-- A machine of the plan that was refused: no machine of a later wave was touched; where machines tell their state, it is the first that wasn't a placeholder, with the codes of its own post at B before; from the opening state none is.
pub record IsForeignMachine (tells : Type 0) (slots : ℕ) (estate : Estate) (plan : Plan) (old new : ℕ → PortState) (machine wanted found : ℕ) : Type 0 where
  pub planned : is_planned plan machine ≡ true
  pub codes : IsRefusal (wanted_place estate machine) wanted found
  pub untouched : (j : ℕ) → wave_of (waves_of plan) machine < wave_of (waves_of plan) j → new j ≡ old j
  pub told : tells → ToldRefusal (old machine).post.b wanted found
  pub first : tells → IsFirstRefused (waves_of plan) old machine
  pub foreign : tells → AreOpeningMachines A slots old → ⊥

-- a pair that wasn't as run 1 needs it, with the codes of its own target's half as it was before
pub record IsToldPair (old : Pair) (wanted found : ℕ) : Type 0 where
  pub unfit : is_fit (TestStart 1) old ≡ false
  pub want : wanted ≡ opening_code (target old)
  pub is : found ≡ refused_code (half (target old) old)

-- a pair of the plan that was refused: where the array tells its state, with the codes of its own target's half before; from the opening state none is
pub record IsForeignPair (tells : Type 0) (plan : Plan) (old : ArrayState) (pair wanted found : ℕ) : Type 0 where
  pub refused : IsRefusedPair plan pair wanted found
  pub told : tells → IsToldPair (old.pair pair) wanted found
  pub foreign : tells → AreOpeningPairs A old → ⊥

-- the answer of a test that came to the machines, by how starting them ended
abbrev pub answer_of : StartEnd → Answer
answer_of EndDone = Done 1
answer_of (EndFailed machine) = PortFault machine
answer_of (EndRefused refused) = Foreign (MachineThing refused.machine) refused.wanted refused.found

-- when a test that called the array gives each answer
abbrev pub RunCause : (array_tells port_tells : Type 0) → Estate → Plan → Outside → Outside → Answer → Type 0
RunCause array_tells port_tells estate plan old new (Done run) = (run ≡ 1) × (port_tells → ArePlaceholders plan old.machine) × (array_tells → AreFit 1 plan.pairs old.array.pair)
RunCause array_tells port_tells estate plan old new (ArrayFault side) = Rose (old.array.faults side) (new.array.faults side) × (new.machine ≡ old.machine)
RunCause array_tells port_tells estate plan old new (PortFault machine) = IsPortFault port_tells old.slots estate plan old.machine new.machine machine
RunCause array_tells port_tells estate plan old new (Foreign (PairThing pair) wanted found) =
    IsForeignPair array_tells plan old.array pair wanted found × (new.machine ≡ old.machine)
RunCause array_tells port_tells estate plan old new (Foreign (MachineThing machine) wanted found) =
    IsForeignMachine port_tells old.slots estate plan old.machine new.machine machine wanted found
RunCause array_tells port_tells estate plan old new _ = ⊥

-- the site has a port for each machine of the estate, and each of its pairs
pub record HasSlots (estate : Estate) (outside : Outside) : Type 0 where
  pub machines : length estate.machines ≤ outside.slots
  pub pairs : length estate.devices ≤ outside.array.count

-- When a test of a plan gives each answer: it is refused where the site has too few machines for the estate, then where it has too few pairs; otherwise it lacks memory, or calls the array.
abbrev pub TestCause : (array_tells port_tells : Type 0) → Estate → Plan → Outside → Outside → Answer → Type 0
TestCause array_tells port_tells estate plan old new (Refused (NoSlot Machines have need)) =
    (have ≡ old.slots) × (need ≡ length estate.machines) × (have < need)
TestCause array_tells port_tells estate plan old new (Refused (NoSlot Pairs have need)) =
    (length estate.machines ≤ old.slots) × (have ≡ old.array.count) × (need ≡ length estate.devices) × (have < need)
TestCause array_tells port_tells estate plan old new NoMemory = Unit {0}
TestCause array_tells port_tells estate plan old new answer = HasSlots estate old × RunCause array_tells port_tells estate plan old new answer

-- what a test leaves of the pairs once it came to the machines: their snapshots are taken before one is touched
abbrev pub PairsDone : Plan → ArrayState → ArrayState → Answer → Type 0
PairsDone plan old new (Done run) = AreTestedPairs plan old.pair new.pair
PairsDone plan old new (PortFault machine) = AreTestedPairs plan old.pair new.pair
PairsDone plan old new (Foreign (MachineThing machine) wanted found) = AreTestedPairs plan old.pair new.pair
PairsDone plan old new (ArrayFault side) = AreTestedByGroup plan old.group old.pair new.pair
PairsDone plan old new _ = Unit {0}

-- what a finished test leaves of the machines
abbrev pub MachinesDone : Estate → Plan → (ℕ → PortState) → (ℕ → PortState) → Answer → Type 0
MachinesDone estate plan old new (Done run) = AreTestedMachines estate plan old new
MachinesDone estate plan old new _ = Unit {0}

-- these answers come before anything is called
abbrev pub CallsNothing : Outside → Outside → Answer → Type 0
CallsNothing old new (Refused refusal) = new ≡ old
CallsNothing old new NoMemory = new ≡ old
CallsNothing old new _ = Unit {0}
