-- Commands of simulated machines and runners: the codes that are kept, and the room for more.
use Rattle.std.specs.Prelude.{ℕ, Bool, true, false, not, ◌&&◌, ◌==◌, ◌-◌, is_some, if◌then◌else◌, List, [], ◌∷◌, ◌++◌, Option, Some, None, Result, Ok, Err}
use Rattle.dr_base.specs.declared.side.Side.{Side}
use Rattle.dr_outside.specs.declared.machine.Kept.{Kept}
use Rattle.dr_outside.specs.declared.runner.RunnerFail.{RunnerFail}
use Rattle.dr_outside.specs.declared.runner.RunnerFail.TheVariants.{Failed, Ran}
use Rattle.dr_outside.specs.Commands.{code_of}
use Rattle.dr_outside.specs.ExitCodes.{exit_code}

-- the codes that are kept, and for how many more there is room
pub record Codes : Type 0 where
  pub kept : List Kept
  pub room : ℕ

-- none is kept, and there is no room
abbrev pub no_codes : Codes
no_codes = record { kept = []; room = 0 }

-- one more is kept
abbrev pub with_code : Kept → Codes → Codes
with_code one codes = record { kept = codes.kept ++ one ∷ []; room = codes.room - 1 }

-- whether a call with this fault, or none, leaves its command run
abbrev pub leaves_run : Option ℕ → Bool
leaves_run None = true
leaves_run (Some leaves) = not (leaves == 0)

-- whether a call keeps its command's code: none is kept for the token, the fault leaves the command run, and there is room
abbrev pub is_kept : Option ℕ → ℕ → Codes → Bool
is_kept fault token codes = not (is_some (code_of codes.kept token)) && leaves_run fault && not (codes.room == 0)

-- the codes after a call
abbrev pub codes_after : Option ℕ → Option Side → ℕ → List ℕ → Codes → Codes
codes_after fault side token name codes =
    if is_kept fault token codes then with_code (record { token = token; code = exit_code name; name = name; side = side }) codes else codes

-- what a call answers, by its fault, the code that is kept for its token, and whether there is no room
abbrev pub answer_by : Option ℕ → Option ℕ → Bool → ℕ → Result ℕ RunnerFail
answer_by (Some leaves) kept full code = Err Failed
answer_by None (Some kept) full code = Err (Ran kept)
answer_by None None true code = Err Failed
answer_by None None false code = Ok code

-- what a call of a command answers
abbrev pub answer_of : Option ℕ → ℕ → List ℕ → Codes → Result ℕ RunnerFail
answer_of fault token name codes = answer_by fault (code_of codes.kept token) (codes.room == 0) (exit_code name)

-- whether a call of a command is a fault
abbrev pub is_fault : Result ℕ RunnerFail → Bool
is_fault (Ok code) = false
is_fault (Err Failed) = true
is_fault (Err (Ran code)) = false
