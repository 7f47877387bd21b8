-- What is kept of a run's records.
use Rattle.std.specs.Prelude.{◌≡◌, ◌≢◌, ℕ, ◌+◌, ◌-◌, ◌<◌, ◌≤◌, ◌==◌, ◌⊎◌, Bool, true, false, ◌&&◌, not, List, [], ◌∷◌, Option, Some, None, IfSome, length, filter, if◌then◌else◌}
use Rattle.std.specs.List.{list_any}
use Rattle.dr_meaning.specs.Types.{Record}
use Rattle.dr_meaning.specs.Visits.{last_visit, is_excused, is_done, begun}
use Rattle.dr_meaning.specs.Next.{is_attempt, begun_since_attempt}
use Rattle.dr_meaning.specs.Lawful.{is_code, last_aside}
use Rattle.dr_meaning.specs.Reports.{attempts_in, skips_in, finished_in, answer_in}
use Rattle.dr_progress.specs.declared.facts.LastVisit.{LastVisit}
use Rattle.dr_progress.specs.declared.facts.Facts.{Facts}
use Rattle.dr_progress.specs.declared.progress.Progress.{Progress}
use Rattle.dr_progress.specs.Facts.{excuse_at, visit_at, answer_at, is_coded_at}

-- whether this is the stage that is begun
abbrev pub is_at : Option ℕ → ℕ → Bool
is_at None stage = false
is_at (Some n) stage = n == stage

-- how many machines were set aside in the last visit of a stage
abbrev pub asides_in : ℕ → List Record → ℕ
asides_in stage [] = 0
asides_in stage (Record.Begin run n ∷ log) = if n == stage then 0 else asides_in stage log
asides_in stage (Record.Aside run machine by ∷ log) = if is_at (begun log) stage then asides_in stage log + 1 else asides_in stage log
asides_in stage (_ ∷ log) = asides_in stage log

-- how many machines are left: a Begin gives those of its stage another try
abbrev pub left_in : List Record → ℕ
left_in [] = 0
left_in (Record.Begin run n ∷ log) = left_in log - asides_in n log
left_in (Record.Aside run machine by ∷ log) = left_in log + 1
left_in (_ ∷ log) = left_in log

-- whether this is the last visit of its stage: the first is where nothing else is kept
abbrev pub is_last : ℕ → Option LastVisit → Bool
is_last visit None = true
is_last visit (Some last) = visit == last.visit

-- whether one that was excused in a visit is so still
abbrev pub is_still : Option ℕ → Option LastVisit → Bool
is_still None last = false
is_still (Some visit) last = is_last visit last

-- whether a machine, or all pairs, are excused in the last visit of a stage
abbrev pub is_excused_at : Facts → (run stage machine : ℕ) → Bool
is_excused_at facts run stage machine = is_still (excuse_at facts run stage machine) (visit_at facts run stage)

-- how many machines a visit set aside
abbrev pub asides_of : Option LastVisit → ℕ
asides_of None = 0
asides_of (Some last) = last.asides

-- how many machines were set aside in the last visit of a stage, by what is kept
abbrev pub asides_at : Facts → (run stage : ℕ) → ℕ
asides_at facts run stage = asides_of (visit_at facts run stage)

-- whether a record is a Begin
abbrev pub is_begin : Record → Bool
is_begin (Record.Begin run stage) = true
is_begin _ = false

-- how many Begins a log has
abbrev pub begins_in : List Record → ℕ
begins_in log = length (filter is_begin log)

-- whether a record is a Done of a stage
abbrev pub is_done_of : ℕ → Record → Bool
is_done_of stage (Record.Done run n) = n == stage
is_done_of stage _ = false

-- whether a stage was done at least once
abbrev pub was_done : List Record → ℕ → Bool
was_done log stage = list_any (is_done_of stage) log

-- a stage that was never begun
abbrev pub IsUnvisited : Progress → ℕ → Type 0
IsUnvisited progress stage = ((stage ≡ 0) ⊎ (progress.walked < stage)) × (is_at progress.begun stage ≡ false)

-- what is counted, and what is told of the last records
pub record KeepsCounts (progress : Progress) (log : List Record) : Type 0 where
  pub attempts : progress.attempts ≡ attempts_in log
  pub skips : progress.skips ≡ skips_in log
  pub visits : progress.visits ≡ begins_in log
  pub left : progress.left ≡ left_in log
  pub finished : progress.finished ≡ finished_in log
  pub last_aside : progress.last_aside ≡ last_aside log
  pub few : progress.attempts + (progress.skips + progress.visits) ≤ length log

-- which stages are done: of those that were visited, which are the first ones, all but the begun one
pub record KeepsStages (progress : Progress) (log : List Record) : Type 0 where
  pub begun : progress.begun ≡ begun log
  pub next : IfSome progress.begun (λ stage. (1 ≤ stage) × (stage ≤ progress.walked + 1))
  pub done : (stage : ℕ) → 1 ≤ stage → stage ≤ progress.walked → is_at progress.begun stage ≡ false → is_done log stage ≡ true
  pub unvisited : (stage : ℕ) → IsUnvisited progress stage → last_visit stage log ≡ None
  -- those that were done at least once are the first ones, also while one of them is begun once more
  pub done_once : (stage : ℕ) → was_done log stage ≡ true → (1 ≤ stage) × (stage ≤ progress.walked)
  pub walked_was : (stage : ℕ) → 1 ≤ stage → stage ≤ progress.walked → was_done log stage ≡ true

-- who is excused in the last visit of a stage
pub record KeepsExcuses (facts : Facts) (run : ℕ) (progress : Progress) (log : List Record) : Type 0 where
  pub told : (stage machine : ℕ) → is_excused machine (last_visit stage log) ≡ is_excused_at facts run stage machine
  pub counted : (stage : ℕ) → asides_in stage log ≡ asides_at facts run stage
  -- nothing is of a visit to come
  pub past : (stage machine visit : ℕ) → excuse_at facts run stage machine ≡ Some visit → visit ≤ progress.visits
  pub unvisited : (stage : ℕ) → IsUnvisited progress stage → (visit_at facts run stage ≡ None) × ((machine : ℕ) → excuse_at facts run stage machine ≡ None)
  pub last : (stage : ℕ) → is_at progress.begun stage ≡ true → IfSome (visit_at facts run stage) (λ last. last.visit ≡ progress.visits)
  -- where nothing is kept of the begun stage's last visit, it is the first
  pub first : (stage : ℕ) → is_at progress.begun stage ≡ true → visit_at facts run stage ≡ None → (machine visit : ℕ) → excuse_at facts run stage machine ≡ Some visit → visit ≡ progress.visits
  pub some : progress.has_asides ≡ false → (stage : ℕ) → asides_at facts run stage ≡ 0

-- whether a stage wasn't begun since the last Attempt, where there is one
abbrev pub is_due : List Record → ℕ → Bool
is_due log stage = list_any is_attempt log && not (begun_since_attempt log stage)

-- a stage is begun since the last Attempt: if it was worked before, nothing waits before it
pub record IsBegunSince (facts : Facts) (run after upto : ℕ) (log : List Record) (stage : ℕ) : Type 0 where
  pub since : begun_since_attempt log stage ≡ true
  pub first : stage ≤ upto → (after < stage) × ((other : ℕ) → 0 < asides_at facts run other → other ≢ stage → after < other → stage < other)

-- a stage was begun before the last Attempt: no stage was begun since
pub record IsBegunBefore (after upto : ℕ) (log : List Record) (stage : ℕ) : Type 0 where
  pub due : is_due log stage ≡ true
  pub none : after ≡ 0
  pub within : stage ≤ upto

-- whichever it is
abbrev pub IsBegunWhen : Facts → (run after upto : ℕ) → List Record → Bool → ℕ → Type 0
IsBegunWhen facts run after upto log true stage = IsBegunSince facts run after upto log stage
IsBegunWhen facts run after upto log false stage = IsBegunBefore after upto log stage

-- which stages with machines set aside are due: those behind one and up to another
pub record KeepsDue (facts : Facts) (run : ℕ) (progress : Progress) (log : List Record) : Type 0 where
  pub due : (stage : ℕ) → 0 < asides_at facts run stage → is_at progress.begun stage ≡ false → progress.again_after < stage → stage ≤ progress.again_upto → is_due log stage ≡ true
  pub worked : (stage : ℕ) → 0 < asides_at facts run stage → is_at progress.begun stage ≡ false → (stage ≤ progress.again_after) ⊎ (progress.again_upto < stage) → is_due log stage ≡ false
  pub begun : IfSome progress.begun (IsBegunWhen facts run progress.again_after progress.again_upto log progress.since_attempt)
  -- none that waits is further than the stage behind the walked ones
  pub bounded : progress.again_upto ≤ progress.walked + 1

-- what is kept of a run's records
pub record Keeps (facts : Facts) (run : ℕ) (progress : Progress) (log : List Record) : Type 0 where
  pub counts : KeepsCounts progress log
  pub stages : KeepsStages progress log
  pub excuses : KeepsExcuses facts run progress log
  pub due : KeepsDue facts run progress log
  pub answers : (step : ℕ) → answer_in step log ≡ answer_at facts run step
  pub codes : (token machine : ℕ) → list_any (is_code token machine) log ≡ is_coded_at facts run token machine

-- Which stage may be begun -----------------------------------------------------------------------------

-- no stage with machines set aside waits
abbrev pub NoneWaits : Facts → ℕ → Progress → Type 0
NoneWaits facts run progress = (stage : ℕ) → progress.again_after < stage → stage ≤ progress.again_upto → asides_at facts run stage ≡ 0

-- the least stage with machines set aside that waits
pub record WaitsFirst (facts : Facts) (run : ℕ) (progress : Progress) (stage : ℕ) : Type 0 where
  pub behind : progress.again_after < stage
  pub within : stage ≤ progress.again_upto
  pub some : 0 < asides_at facts run stage
  pub first : (other : ℕ) → progress.again_after < other → other < stage → asides_at facts run other ≡ 0

-- behind which stage others wait when this one is done: behind it, if it was worked again since the last Attempt
abbrev pub WaitsBehind : Progress → (stage after : ℕ) → Type 0
WaitsBehind progress stage after =
    ((after ≡ stage) × (progress.since_attempt ≡ true) × (stage ≤ progress.again_upto))
    ⊎ ((after ≡ progress.again_after) × (progress.since_attempt ≡ true → progress.again_upto < stage))

-- a stage may be begun: none is, and it is the least that waits, or none waits and it is the first that was never begun
pub record MayBeginAt (facts : Facts) (run : ℕ) (progress : Progress) (stage : ℕ) : Type 0 where
  pub none_begun : progress.begun ≡ None
  pub next : WaitsFirst facts run progress stage ⊎ (NoneWaits facts run progress × (stage ≡ progress.walked + 1))

-- a record of the run may follow; an Estate and a Start are of no run
abbrev pub MayFollow : Facts → Progress → Record → Type 0
MayFollow facts progress (Record.Estate bytes) = ⊥
MayFollow facts progress (Record.Start row) = ⊥
MayFollow facts progress (Record.Attempt run moment) = Unit {0}
MayFollow facts progress (Record.Begin run stage) = MayBeginAt facts run progress stage
MayFollow facts progress (Record.Done run stage) = progress.begun ≡ Some stage
MayFollow facts progress (Record.Skip run stage machine) = progress.begun ≡ Some stage
MayFollow facts progress (Record.Aside run machine by) = progress.begun ≢ None
MayFollow facts progress (Record.Answer run step text) = Unit {0}
MayFollow facts progress (Record.Code run token machine code) = Unit {0}
MayFollow facts progress (Record.Finish run moment machines) = Unit {0}

-- no stage with machines set aside is due
abbrev pub NoneDue : List Record → Type 0
NoneDue log = (stage : ℕ) → 0 < asides_in stage log → is_due log stage ≡ false

-- this is the least that is due
pub record IsLeastDue (log : List Record) (stage : ℕ) : Type 0 where
  pub some : 0 < asides_in stage log
  pub due : is_due log stage ≡ true
  pub least : (other : ℕ) → other < stage → 0 < asides_in other log → is_due log other ≡ false
