-- The program's values as the definitions of runs have them.
use Rattle.std.specs.Prelude.{List, map, reverse, option_map}
use Rattle.std.specs.Borrow.{Bor}
use Rattle.dr_meaning.specs.Types.{Record, Estate, Plan}
use Rattle.dr_meaning.specs.Visits.{Visit}
use Rattle.dr_meaning.specs.Runs.{Setting, Run, TakenOver}
use Rattle.dr_replay.specs.declared.runs.Run.{Run as RunValue}
use Rattle.dr_replay.specs.declared.runs.TakenOver.{TakenOver as TakenValue}
use Rattle.dr_replay.specs.declared.visiting.Visit.{Visit as VisitValue}

-- an estate and its plans as what is in force
abbrev pub in_force : Estate → List Plan → Setting
in_force estate plans = record { estate = estate; plans = plans }

-- records in the order in which they came, the newest first
abbrev pub newest_first : List (Bor Record) → List Record
newest_first log = reverse (map (λ r. r.now) log)

-- a run that was taken over
abbrev pub taken_of : TakenValue → TakenOver
taken_of taken = record { start = taken.start.now; plan = taken.plan.now; log = newest_first taken.log.items }

-- a run
abbrev pub run_of : RunValue → Run
run_of run = record {
  start = run.start.now;
  estate = run.estate.now;
  plan = run.plan.now;
  old = run.protected;
  log = newest_first run.log.items;
  took = option_map taken_of run.took;
  by = run.by;
}

-- runs in the order of their Starts, the newest first
abbrev pub runs_told : List RunValue → List Run
runs_told runs = reverse (map run_of runs)

-- a visit
abbrev pub visit_of : VisitValue → Visit
visit_of visit = record { stage = visit.stage; done = visit.done; excused = reverse visit.excused.items }

-- visits in the order of their Begins, the newest first
abbrev pub visits_told : List VisitValue → List Visit
visits_told visits = reverse (map visit_of visits)
