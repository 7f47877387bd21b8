-- A run's records as visits of its stages. A run's log has the newest record first, and so have the visits.
use Rattle.std.specs.Prelude.{ℕ, ◌==◌, Bool, true, false, List, [], ◌∷◌, Option, Some, None, find, if◌then◌else◌}
use Rattle.dr_meaning.specs.Types.{Record}
use Rattle.dr_base.specs.Lists.{has}

-- a Begin and what followed it: whether a Done did, and the machines that its Skips and Asides name
pub record Visit : Type 0 where
  pub stage : ℕ
  pub done : Bool
  pub excused : List ℕ

-- the last visit is done
abbrev pub mark_done : List Visit → List Visit
mark_done [] = []
mark_done (visit ∷ visits) = record visit { done = true } ∷ visits

-- the last visit excuses this machine too
abbrev pub excuse : ℕ → List Visit → List Visit
excuse machine [] = []
excuse machine (visit ∷ visits) = record visit { excused = machine ∷ visit.excused } ∷ visits

-- the visits of a log: a Done, a Skip or an Aside is about the stage that was begun last
abbrev pub visits : List Record → List Visit
visits [] = []
visits (Record.Begin run stage ∷ log) = record { stage = stage; done = false; excused = [] } ∷ visits log
visits (Record.Done run stage ∷ log) = mark_done (visits log)
visits (Record.Skip run stage machine ∷ log) = excuse machine (visits log)
visits (Record.Aside run machine by ∷ log) = excuse machine (visits log)
visits (_ ∷ log) = visits log

-- the last visit of a stage
abbrev pub last_visit : ℕ → List Record → Option Visit
last_visit stage log = find (λ visit. visit.stage == stage) (visits log)

-- whether there is a visit, and it is done
abbrev pub is_visit_done : Option Visit → Bool
is_visit_done None = false
is_visit_done (Some visit) = visit.done

-- whether there is a visit, and it excuses this machine
abbrev pub is_excused : ℕ → Option Visit → Bool
is_excused machine None = false
is_excused machine (Some visit) = has visit.excused machine

-- whether a stage is done: a Done of it follows its last Begin
abbrev pub is_done : List Record → ℕ → Bool
is_done log stage = is_visit_done (last_visit stage log)

-- the stage of the last visit, where that isn't done
abbrev pub open_stage : List Visit → Option ℕ
open_stage [] = None
open_stage (visit ∷ earlier) = if visit.done then None else Some visit.stage

-- the stage that is begun and not done
abbrev pub begun : List Record → Option ℕ
begun log = open_stage (visits log)

-- the number that stands for all: all pairs in a Skip, the runner in a Code
abbrev pub all : ℕ
all = 4294967295

-- whether a machine, or all pairs, were skipped or set aside in a stage since its last Begin
abbrev pub is_skipped : List Record → ℕ → ℕ → Bool
is_skipped log stage machine = is_excused machine (last_visit stage log)
