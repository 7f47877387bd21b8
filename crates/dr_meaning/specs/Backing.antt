-- What the outside must show before a record is written, so that the journal stays sound with it.
use Rattle.std.specs.Prelude.{◌≡◌, ℕ, ◌<◌, ◌≤◌, ◌⊎◌, true, false, List, Contains, Some, slice_get}
use Rattle.std.specs.List.{AllByRecursion}
use Rattle.std.specs.List.Sorted.{IsStrictlyIncreasing}
use Rattle.dr_groups.specs.Groups.{IsPairOf, IsMachineOf}
use Rattle.dr_plan.specs.Orders.{IsOrdered}
use Rattle.dr_outside.specs.BySide.{at}
use Rattle.dr_outside.specs.Pairs.{frame_of}
use Rattle.dr_meaning.specs.Types.{Side, Op, Pair, PlanMachine, Plan, Estate, StageKind, Stage, StartRow, Record}
use Rattle.dr_meaning.specs.StartUp.{is_started}
use Rattle.dr_meaning.specs.Worlds.{World}
use Rattle.dr_base.specs.Lists.{has}
use Rattle.dr_meaning.specs.Visits.{Visit, all}
use Rattle.dr_meaning.specs.Runs.{Setting, Run, number, op, new, last_of_group, protected_side}
use Rattle.dr_meaning.specs.Outcomes.{made_frame, made_post}
use Rattle.dr_meaning.specs.Reach.{stage_of, works}
use Rattle.dr_meaning.specs.Expected.{wanted}
use Rattle.dr_meaning.specs.Fits.{is_recovery, is_done_whole, IsTestReplicated, HoldsOldWrites, HoldsNewWrites, HoldsAll, ReadsAtMostIn}
use Rattle.dr_meaning.specs.InOrder.{has_code, is_ready_at_new, IsPairOfMachine, IsServing, MayRun}

-- Plans ----------------------------------------------------------------------------------------------------------

-- a plan is in order, and has exactly the machines and pairs of its groups; its pairs ascend
pub record IsRegularPlan (estate : Estate) (plan : Plan) : Type 0 where
  pub ordered : IsOrdered plan
  pub machines : (m : PlanMachine) → Contains plan.machines m → (g : ℕ) × Contains plan.groups g × IsMachineOf estate g m.machine
  pub all_machines : (g m : ℕ) → Contains plan.groups g → IsMachineOf estate g m → (entry : PlanMachine) × Contains plan.machines entry × (entry.machine ≡ m)
  pub pairs : (p : ℕ) → Contains plan.pairs p → (g : ℕ) × Contains plan.groups g × IsPairOf estate g p
  pub all_pairs : (g p : ℕ) → Contains plan.groups g → IsPairOf estate g p → Contains plan.pairs p
  pub pairs_ascend : IsStrictlyIncreasing plan.pairs

-- each plan in force is so
abbrev pub HasRegularPlans : Setting → Type 0
HasRegularPlans setting = (number : ℕ) (plan : Plan) → slice_get setting.plans number ≡ Some plan → IsRegularPlan setting.estate plan

-- a machine's entry in a plan, with a priority from 1 to 5
pub record IsEntry (plan : Plan) (m : PlanMachine) : Type 0 where
  pub listed : Contains plan.machines m
  pub at_least : 1 ≤ m.priority
  pub at_most : m.priority ≤ 5

-- a machine's wave comes before this wave
abbrev pub IsEarlier : PlanMachine → Stage → Type 0
IsEarlier m stage = (m.priority < stage.priority) ⊎ ((m.priority ≡ stage.priority) × (m.depth < stage.depth))

-- Other records --------------------------------------------------------------------------------------------------

-- a record that asks nothing of the pairs and posts, and leaves its run open
abbrev pub IsPlain : Record → Type 0
IsPlain (Record.Attempt n moment) = Unit {0}
IsPlain (Record.Begin n stage) = Unit {0}
IsPlain (Record.Skip n stage m) = Unit {0}
IsPlain (Record.Aside n m by) = Unit {0}
IsPlain (Record.Answer n step text) = Unit {0}
IsPlain (Record.Code n token m code) = Unit {0}
IsPlain (Record.Estate bytes) = ⊥
IsPlain (Record.Start row) = ⊥
IsPlain (Record.Done n stage) = ⊥
IsPlain (Record.Finish n moment ms) = ⊥

-- Done ---------------------------------------------------------------------------------------------------------------

-- what the Done of a replication or of a freezing says of a pair's writes
pub record ShowsDone (k : ℕ) (pair : Pair) (run : Run) (kind : StageKind) : Type 0 where
  pub tested : op run ≡ Op.Testing → kind ≡ StageKind.Sync → IsTestReplicated k pair run
  pub replicated : is_recovery (op run) ≡ true → (kind ≡ StageKind.Sync) ⊎ (kind ≡ StageKind.FinalSync) → HoldsOldWrites k pair run
  pub kept_all : is_recovery (op run) ≡ true → ((kind ≡ StageKind.FinalSync) × (is_done_whole run StageKind.Prepare ≡ true)) ⊎ ((kind ≡ StageKind.Prepare) × (is_done_whole run StageKind.FinalSync ≡ true)) → HoldsAll run.old pair
  pub reversed : op run ≡ Op.Reprotect → kind ≡ StageKind.FinalSync → HoldsNewWrites k pair run

-- a pair is made by the visit's stage, or all pairs were skipped; where they weren't, it shows what the Done says
pub record BacksPair (world : World) (run : Run) (visit : Visit) (k : ℕ) : Type 0 where
  pub made : (has visit.excused all ≡ true) ⊎ (made_frame run (stage_of run visit).kind (frame_of (world.pair k)) ≡ frame_of (world.pair k))
  pub shows : has visit.excused all ≡ false → ShowsDone k (world.pair k) run (stage_of run visit).kind

-- a machine of a group is made by the visit's stage, where that works it, or was excused
abbrev pub BacksPost : World → Run → Visit → (g m : ℕ) → Type 0
BacksPost world run visit g m =
    (side : Side) → works run (stage_of run visit) m side ≡ true
    → (has visit.excused m ≡ true) ⊎ (made_post (stage_of run visit).kind (wanted g run m) (at side (world.post m)) ≡ at side (world.post m))

-- the outside shows what a Done of the visit says, in each group whose last run this is
pub record BacksDone (setting : Setting) (runs : List Run) (world : World) (run : Run) (visit : Visit) : Type 0 where
  pub pairs : (g p : ℕ) → IsPairOf setting.estate g p → p < world.pair_count → last_of_group g runs ≡ Some run → BacksPair world run visit p
  pub machines : (g m : ℕ) → IsMachineOf setting.estate g m → m < world.machine_count → last_of_group g runs ≡ Some run → BacksPost world run visit g m

-- Start ----------------------------------------------------------------------------------------------------------------

-- a Start gives no more writes of a pair than it has
abbrev pub BacksStart : Setting → List Run → World → StartRow → Type 0
BacksStart setting runs world row =
    (g p : ℕ) → IsPairOf setting.estate g p → p < world.pair_count → has row.groups g ≡ true → ReadsAtMostIn p (world.pair p) (protected_side setting row.groups runs) row

-- Machines that start --------------------------------------------------------------------------------------------------

-- a machine that a plan names: one of its own, or one that such a one depends on
abbrev pub Names : Plan → ℕ → Type 0
Names plan machine = (m : PlanMachine) × Contains plan.machines m × ((machine ≡ m.machine) ⊎ Contains m.after machine)

-- what may change for a run that starts machines: nothing that they rest on is lost, and each that was started anew may be so
pub record KeepsOrder (old new_world : World) (run : Run) : Type 0 where
  pub ready : (m : ℕ) → Names run.plan m → is_ready_at_new old run m ≡ true → is_ready_at_new new_world run m ≡ true
  pub kept : (m t : ℕ) → has_code (old.kept m) t ≡ true → has_code (new_world.kept m) t ≡ true
  pub runner : (t : ℕ) → has_code old.runner t ≡ true → has_code new_world.runner t ≡ true
  pub serving : (m : PlanMachine) (k : ℕ) → Contains run.plan.machines m → IsPairOfMachine run.estate m.machine k → IsServing (op run) (number run) (old.pair k) → IsServing (op run) (number run) (new_world.pair k)
  pub starts : AllByRecursion (λ m. is_started (at (new run) (new_world.post m.machine)) ≡ true → (is_started (at (new run) (old.post m.machine)) ≡ true) ⊎ MayRun new_world run m) run.plan.machines
