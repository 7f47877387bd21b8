-- What facts say, by run.
use Rattle.std.specs.Prelude.{◌≡◌, ◌≢◌, ℕ, ◌==◌, Bool, true, false, ◌&&◌, ◌⊎◌, Option, Some, None, List, min}
use Rattle.std.specs.HashMap as map
use Rattle.std.specs.HashSet as set
use Rattle.dr_progress.specs.declared.facts.MachineKey.{MachineKey}
use Rattle.dr_progress.specs.declared.facts.StageKey.{StageKey}
use Rattle.dr_progress.specs.declared.facts.StepKey.{StepKey}
use Rattle.dr_progress.specs.declared.facts.CodeKey.{CodeKey}
use Rattle.dr_progress.specs.declared.facts.LastVisit.{LastVisit}
use Rattle.dr_progress.specs.declared.facts.Facts.{Facts}

-- whether two keys are of one machine in one stage of one run
abbrev pub same_machine : MachineKey → MachineKey → Bool
same_machine a b = (a.run == b.run) && ((a.stage == b.stage) && (a.machine == b.machine))

-- whether two keys are of one stage of one run
abbrev pub same_stage : StageKey → StageKey → Bool
same_stage a b = (a.run == b.run) && (a.stage == b.stage)

-- whether two keys are of one step of one run
abbrev pub same_step : StepKey → StepKey → Bool
same_step a b = (a.run == b.run) && (a.step == b.step)

-- whether two keys are of one command of one run
abbrev pub same_code : CodeKey → CodeKey → Bool
same_code a b = (a.run == b.run) && ((a.token == b.token) && (a.machine == b.machine))

-- the visit of a stage in which a machine, or all pairs, were excused last
abbrev pub excuse_at : Facts → (run stage machine : ℕ) → Option ℕ
excuse_at facts run stage machine = map.get same_machine facts.excuses (record { run = run; stage = stage; machine = machine })

-- what is kept of the last visit of a stage
abbrev pub visit_at : Facts → (run stage : ℕ) → Option LastVisit
visit_at facts run stage = map.get same_stage facts.visits (record { run = run; stage = stage })

-- the text with which a step was answered
abbrev pub answer_at : Facts → (run step : ℕ) → Option (List ℕ)
answer_at facts run step = map.get same_step facts.answers (record { run = run; step = step })

-- whether the code of a command is there
abbrev pub is_coded_at : Facts → (run token machine : ℕ) → Bool
is_coded_at facts run token machine = set.contains same_code facts.codes (record { run = run; token = token; machine = machine })

-- for how many further records there is room
abbrev pub room : Facts → ℕ
room facts = min (map.spare facts.excuses) (min (map.spare facts.visits) (min (map.spare facts.answers) (set.spare facts.codes)))

-- two say the same of a run
pub record SayAlike (old new : Facts) (run : ℕ) : Type 0 where
  pub excuses : (stage machine : ℕ) → excuse_at new run stage machine ≡ excuse_at old run stage machine
  pub visits : (stage : ℕ) → visit_at new run stage ≡ visit_at old run stage
  pub answers : (step : ℕ) → answer_at new run step ≡ answer_at old run step
  pub codes : (token machine : ℕ) → is_coded_at new run token machine ≡ is_coded_at old run token machine

-- two say the same of all runs
abbrev pub SameFacts : Facts → Facts → Type 0
SameFacts old new = (run : ℕ) → SayAlike old new run

-- there is nothing of a run
pub record AreUnused (facts : Facts) (run : ℕ) : Type 0 where
  pub excuses : (stage machine : ℕ) → excuse_at facts run stage machine ≡ None
  pub visits : (stage : ℕ) → visit_at facts run stage ≡ None
  pub answers : (step : ℕ) → answer_at facts run step ≡ None
  pub codes : (token machine : ℕ) → is_coded_at facts run token machine ≡ false

-- only of this run something else is said
abbrev pub SaysOnlyOf : ℕ → Facts → Facts → Type 0
SaysOnlyOf run old new = (other : ℕ) → other ≢ run → SayAlike old new other

-- a machine, or all pairs, are excused in this visit of the stage, and nothing else changes
pub record PutsExcuse (old new : Facts) (run stage machine visit : ℕ) : Type 0 where
  pub here : excuse_at new run stage machine ≡ Some visit
  pub elsewhere : (r s m : ℕ) → (r ≢ run) ⊎ ((s ≢ stage) ⊎ (m ≢ machine)) → excuse_at new r s m ≡ excuse_at old r s m
  pub visits : new.visits ≡ old.visits
  pub answers : new.answers ≡ old.answers
  pub codes : new.codes ≡ old.codes

-- this is the last visit of the stage, with so many machines set aside, and nothing else changes
pub record PutsVisit (old new : Facts) (run stage visit asides : ℕ) : Type 0 where
  pub here : visit_at new run stage ≡ Some (record { visit = visit; asides = asides })
  pub elsewhere : (r s : ℕ) → (r ≢ run) ⊎ (s ≢ stage) → visit_at new r s ≡ visit_at old r s
  pub excuses : new.excuses ≡ old.excuses
  pub answers : new.answers ≡ old.answers
  pub codes : new.codes ≡ old.codes

-- a step is answered with this text, and nothing else changes
pub record PutsAnswer (old new : Facts) (run step : ℕ) (text : List ℕ) : Type 0 where
  pub here : answer_at new run step ≡ Some text
  pub elsewhere : (r s : ℕ) → (r ≢ run) ⊎ (s ≢ step) → answer_at new r s ≡ answer_at old r s
  pub excuses : new.excuses ≡ old.excuses
  pub visits : new.visits ≡ old.visits
  pub codes : new.codes ≡ old.codes

-- the code of a command is there, and nothing else changes
pub record PutsCode (old new : Facts) (run token machine : ℕ) : Type 0 where
  pub here : is_coded_at new run token machine ≡ true
  pub elsewhere : (r t m : ℕ) → (r ≢ run) ⊎ ((t ≢ token) ⊎ (m ≢ machine)) → is_coded_at new r t m ≡ is_coded_at old r t m
  pub excuses : new.excuses ≡ old.excuses
  pub visits : new.visits ≡ old.visits
  pub answers : new.answers ≡ old.answers
