-- What a stage's calls of the array, of machines and of the runner leave.
use Rattle.std.specs.Prelude.{◌≡◌, ℕ, ◌<◌, ◌⊎◌, Bool, true, false, Option, Some, None, List, Contains}
use Rattle.dr_groups.specs.Groups.{IsPairOf, IsMachineOf}
use Rattle.dr_outside.specs.BySide.{at}
use Rattle.dr_outside.specs.Commands.{code_of}
use Rattle.dr_outside.specs.Pairs.{frame_of, Drift, Made, PairStep}
use Rattle.dr_meaning.specs.Types.{Link, Estate, ArrayCall, Pair, StageKind, Side, Kept, PlanMachine, Stage}
use Rattle.dr_meaning.specs.Worlds.{World}
use Rattle.dr_meaning.specs.Runs.{Run, number, new, root, holds}
use Rattle.dr_meaning.specs.StartUp.{is_started}
use Rattle.dr_meaning.specs.Outcomes.{PostOutcome}
use Rattle.dr_meaning.specs.Reach.{works}
use Rattle.dr_meaning.specs.Expected.{wanted}
use Rattle.dr_meaning.specs.InOrder.{MayRun}
use Rattle.dr_groups.specs.Consistency.{SameConsistency}

-- The array --------------------------------------------------------------------------------------------

-- the call that a stage makes; a stage of machines or of a step makes none
abbrev pub call_of : Run → StageKind → Option ArrayCall
call_of run StageKind.Sync = Some ArrayCall.Sync
call_of run StageKind.FinalSync = Some ArrayCall.Sync
call_of run StageKind.TestStart = Some (ArrayCall.TestStart (number run))
call_of run StageKind.TestStop = Some ArrayCall.TestStop
call_of run StageKind.Prepare = Some ArrayCall.Prepare
call_of run StageKind.Split = Some (ArrayCall.Failover (root run))
call_of run StageKind.Reverse = Some ArrayCall.Reverse
call_of run _ = None

-- a pair before and after a call that may have had it in its list, Ok or Failed: made, or drifted
abbrev pub CalledBy : Option ArrayCall → Pair → Pair → Type 0
CalledBy None p q = Drift p q
CalledBy (Some call) p q = Made call p q ⊎ Drift p q

-- the same of a stage's call
abbrev pub Called : Run → StageKind → Pair → Pair → Type 0
Called run kind p q = CalledBy (call_of run kind) p q

-- a pair that isn't in the list of a stage's call: split already (Sync, FinalSync, Split), with this test's snapshot (TestStart), without one (TestStop), frozen (Prepare), reversed (Reverse); a stage without a call leaves out all
abbrev pub IsLeftOut : Run → StageKind → Pair → Type 0
IsLeftOut run StageKind.Sync pair = pair.link ≡ Link.Split
IsLeftOut run StageKind.FinalSync pair = pair.link ≡ Link.Split
IsLeftOut run StageKind.TestStart pair = (frame_of pair).snapshot ≡ Some (number run)
IsLeftOut run StageKind.TestStop pair = pair.snapshot ≡ None
IsLeftOut run StageKind.Prepare pair = at run.old pair.writable ≡ false
IsLeftOut run StageKind.Split pair = pair.link ≡ Link.Split
IsLeftOut run StageKind.Reverse pair = pair.source ≡ new run
IsLeftOut run _ pair = Unit {0}

-- a pair that a stage's call is for: the outside has it, in a group that the run holds, and the call doesn't leave it out
pub record IsForCall (estate : Estate) (run : Run) (kind : StageKind) (world : World) (pair : ℕ) : Type 0 where
  pub group : ℕ
  pub of_group : IsPairOf estate group pair
  pub held : holds group run ≡ true
  pub there : pair < world.pair_count
  pub needed : ¬ IsLeftOut run kind (world.pair pair)

-- a pair before and after a call that was Ok: made by it
abbrev pub MadeBy : Option ArrayCall → Pair → Pair → Type 0
MadeBy None p q = ⊥
MadeBy (Some call) p q = Made call p q

-- a pair before and after a stage's calls: left out of them, or made by one
abbrev pub IsWorked : Run → StageKind → Pair → Pair → Type 0
IsWorked run kind p q = (IsLeftOut run kind p × Drift p q) ⊎ MadeBy (call_of run kind) p q

-- a call of a run to the array, Ok or Failed, over all pairs: which of them it made. Each is of a group, none of a group that the run doesn't hold, and of a group's pairs that are of one consistency group and had one frame all or none
pub record CallsPairs (estate : Estate) (run : Run) (call : ArrayCall) (old now : World) : Type 0 where
  pub which : ℕ → Bool
  pub each : (p : ℕ) → PairStep call (which p) (old.pair p) (now.pair p)
  pub grouped : (p : ℕ) → which p ≡ true → (g : ℕ) × IsPairOf estate g p
  pub own : (g p : ℕ) → IsPairOf estate g p → which p ≡ true → holds g run ≡ true
  pub alike : (g p q : ℕ) → IsPairOf estate g p → IsPairOf estate g q → SameConsistency estate p q → frame_of (old.pair p) ≡ frame_of (old.pair q) → which p ≡ which q
  pub rest : record now { pair = old.pair } ≡ old

-- Machines and the runner ------------------------------------------------------------------------------

-- each code that was kept for a token is kept
abbrev pub KeepsCodes : List Kept → List Kept → Type 0
KeepsCodes before after = (token code : ℕ) → code_of before token ≡ Some code → code_of after token ≡ Some code

-- what a run's stage leaves of the outside by its work on machines, whichever calls it made and whatever each answered
pub record CallsMachines (estate : Estate) (run : Run) (stage : Stage) (old now : World) : Type 0 where
  -- where the stage works a machine, its post is as it was, or the run holds its group and the post is one of the stage's outcomes
  pub worked : (g m : ℕ) (side : Side) → IsMachineOf estate g m → works run stage m side ≡ true →
      (at side (now.post m) ≡ at side (old.post m)) ⊎ ((holds g run ≡ true) × PostOutcome stage.kind (wanted g run m) (at side (old.post m)) (at side (now.post m)))
  -- any other post is as it was
  pub others : (m : ℕ) (side : Side) → works run stage m side ≡ false → at side (now.post m) ≡ at side (old.post m)
  -- each machine of the plan that was started anew may be so
  pub starts : (m : PlanMachine) → Contains run.plan.machines m →
      is_started (at (new run) (old.post m.machine)) ≡ false → is_started (at (new run) (now.post m.machine)) ≡ true → MayRun now run m
  pub kept : (m : ℕ) → KeepsCodes (old.kept m) (now.kept m)
  pub drifts : (p : ℕ) → Drift (old.pair p) (now.pair p)
  pub rest : record now { pair = old.pair; post = old.post; kept = old.kept } ≡ old

-- nothing changes but that machines and the runner may keep more codes
pub record OnlyKeepsCodes (old now : World) : Type 0 where
  pub machines : (m : ℕ) → KeepsCodes (old.kept m) (now.kept m)
  pub runner : KeepsCodes old.runner now.runner
  pub rest : record now { kept = old.kept; runner = old.runner } ≡ old
