-- The stage that a run works next.
use Rattle.std.specs.Prelude.{◌≡◌, ◌≢◌, ℕ, ◌+◌, ◌≤◌, ◌==◌, Bool, true, false, ◌&&◌, ◌||◌, not, List, [], ◌∷◌, Option, Some, None, length, if◌then◌else◌}
use Rattle.std.specs.List.{list_any, AllByRecursion}
use Rattle.std.specs.Option.{option_or}
use Rattle.dr_meaning.specs.Types.{Op, StageKind, Stage, Record}
use Rattle.dr_meaning.specs.Visits.{visits, begun, is_done}
use Rattle.dr_meaning.specs.Runs.{Run, op, stages_of}
use Rattle.dr_meaning.specs.Meaning.{same_kind, is_left}

-- whether a record is an Attempt
abbrev pub is_attempt : Record → Bool
is_attempt (Record.Attempt run moment) = true
is_attempt _ = false

-- whether a stage was begun since the last Attempt
abbrev pub begun_since_attempt : List Record → ℕ → Bool
begun_since_attempt [] stage = false
begun_since_attempt (Record.Attempt run moment ∷ log) stage = false
begun_since_attempt (Record.Begin run n ∷ log) stage = (n == stage) || begun_since_attempt log stage
begun_since_attempt (_ ∷ log) stage = begun_since_attempt log stage

-- the least number whose stage passes the test, where the first of these is numbered n
abbrev pub least_stage : (ℕ → Stage → Bool) → ℕ → List Stage → Option ℕ
least_stage test n [] = None
least_stage test n (stage ∷ stages) = if test n stage then Some n else least_stage test (n + 1) stages

-- whether a stage is to be worked once more: a done Start stage with machines that are left, which wasn't begun since the last Attempt, where there is one
abbrev pub is_worked_again : Run → ℕ → Stage → Bool
is_worked_again run n stage =
    list_any is_attempt run.log && same_kind stage.kind StageKind.Start && is_done run.log n && list_any (is_left run) stage.machines && not (begun_since_attempt run.log n)

-- the least stage that isn't done
abbrev pub least_undone : Run → Option ℕ
least_undone run = least_stage (λ n stage. not (is_done run.log n)) 1 (stages_of run)

-- the next stage: the one that is begun and not done, else the least to be worked once more, else the least that isn't done
abbrev pub next_stage : Run → Option ℕ
next_stage run =
    option_or (begun run.log) (option_or (least_stage (is_worked_again run) 1 (stages_of run)) (least_undone run))

-- a run has gone through its stages: each was visited and is done since its last Begin, none is begun without being done, and outside a failover nothing was skipped or set aside
pub record HasWalked (run : Run) : Type 0 where
  pub each : (stage : ℕ) → 1 ≤ stage → stage ≤ length (stages_of run) → is_done run.log stage ≡ true
  pub all_done : AllByRecursion (λ visit. visit.done ≡ true) (visits run.log)
  pub none_begun : begun run.log ≡ None
  pub none_excused : op run ≢ Op.Failover → AllByRecursion (λ visit. visit.excused ≡ []) (visits run.log)
