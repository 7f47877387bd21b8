-- What reports tell of a run.
use Rattle.std.specs.Prelude.{ℕ, ◌+◌, ◌==◌, Bool, true, false, List, [], ◌∷◌, Option, Some, None, length, map, filter, if◌then◌else◌}
use Rattle.dr_meaning.specs.Types.{Record}
use Rattle.dr_meaning.specs.Runs.{Run}
use Rattle.dr_meaning.specs.Meaning.{is_left}
use Rattle.dr_meaning.specs.Next.{is_attempt}

-- how many Attempts a log has
abbrev pub attempts_in : List Record → ℕ
attempts_in log = length (filter is_attempt log)

-- how often it was attempted: the first time behind its Start, and once for each Attempt
abbrev pub attempts : Run → ℕ
attempts run = 1 + attempts_in run.log

-- whether a record is a Skip
abbrev pub is_skip : Record → Bool
is_skip (Record.Skip run stage machine) = true
is_skip _ = false

-- how many Skips a log has
abbrev pub skips_in : List Record → ℕ
skips_in log = length (filter is_skip log)

-- the machines that are left, in the order of the plan's, which ascend: those that a Finish names
abbrev pub left_machines : Run → List ℕ
left_machines run = filter (is_left run) (map (λ m. m.machine) run.plan.machines)

-- when a log tells that its run finished
abbrev pub finished_in : List Record → Option ℕ
finished_in [] = None
finished_in (Record.Finish run moment machines ∷ log) = Some moment
finished_in (_ ∷ log) = finished_in log

-- the text with which a log answers a step
abbrev pub answer_in : ℕ → List Record → Option (List ℕ)
answer_in step [] = None
answer_in step (Record.Answer run s text ∷ log) = if s == step then Some text else answer_in step log
answer_in step (_ ∷ log) = answer_in step log
