-- Commands and readings of codes, among the codes that count.
use Rattle.std.specs.Prelude.{ℕ, ◌≡◌, ◌==◌, ◌⊎◌, ◌&&◌, Bool, true, false, not, is_some, if◌then◌else◌, List, [], ◌∷◌, ◌++◌, Option, Some, None, Result, Ok, Err}
use Rattle.std.proofs.Common.{refl, sym, ◌∙◌, inl, inr}
use Rattle.dr_base.specs.declared.side.Side.{Side}
use Rattle.dr_outside.specs.declared.machine.Kept.{Kept}
use Rattle.dr_outside.specs.declared.runner.RunnerFail.{RunnerFail}
use Rattle.dr_outside.specs.declared.runner.RunnerFail.TheVariants.{Failed, Ran}
use Rattle.dr_outside.specs.Commands.{code_of, RunsOnce}
use Rattle.dr_outside.specs.FirstCodes.{first_codes}
use Rattle.dr_outside.specs.Machines.{PortState, CommandStep}
use Rattle.dr_outside.specs.Runners.{RunnerState, CallStep}
use Rattle.dr_outside.specs.ExitCodes.{exit_code}
use Rattle.dr_outside.proofs.TokenLaws.{first_same, runs_first}
use Rattle.dr_sim.specs.Commands.{Codes, with_code, leaves_run, codes_after, answer_by, answer_of}
use Rattle.dr_sim.specs.Ports.{port_answer}

-- what a command does to the codes, by its answer
abbrev CodesStep : Option Side → ℕ → List ℕ → List Kept → List Kept → Result ℕ RunnerFail → Type 0
CodesStep side token name old new (Ok code) = RunsOnce side token name old new code
CodesStep side token name old new (Err (Ran code)) = (code_of old token ≡ Some code) × (new ≡ old)
CodesStep side token name old new (Err Failed) = (new ≡ old) ⊎ ((code : ℕ) × RunsOnce side token name old new code)

module _ (side : Option Side) (token : ℕ) (name : List ℕ) (codes : Codes) where
  abbrev one : Kept
  one = record { token = token; code = exit_code name; name = name; side = side }

  runs : code_of codes.kept token ≡ None → RunsOnce side token name (first_codes codes.kept) (first_codes (codes.kept ++ one ∷ [])) (exit_code name)
  runs none = runs_first side token name codes.kept (codes.kept ++ one ∷ []) (exit_code name) (record { first = none; kept = refl })

  abbrev left : Option ℕ → Bool → Bool → List Kept
  left found runs_now full = first_codes (if (not (is_some found) && runs_now) && not full then with_code one codes else codes).kept

  failed : (leaves : Bool) (full : Bool) → code_of codes.kept token ≡ None → CodesStep side token name (first_codes codes.kept) (left None leaves full) (Err Failed)
  failed false full none = inl refl
  failed true true none = inl refl
  failed true false none = inr (exit_code name, runs none)

  by : (fault found : Option ℕ) → code_of codes.kept token ≡ found → (full : Bool) → CodesStep side token name (first_codes codes.kept) (left found (leaves_run fault) full) (answer_by fault found full (exit_code name))
  by (Some leaves) (Some code) is full = inl refl
  by (Some leaves) None is full = failed (not (leaves == 0)) full is
  by None (Some code) is full = (first_same codes.kept token ∙ is, refl)
  by None None is true = inl refl
  by None None is false = runs is

  code_step : (fault : Option ℕ) → CodesStep side token name (first_codes codes.kept) (first_codes (codes_after fault side token name codes).kept) (answer_of fault token name codes)
  code_step fault = by fault (code_of codes.kept token) refl (codes.room == 0)

  of_runner : (old new : RunnerState) (answer : Result ℕ RunnerFail) → CodesStep None token name old.kept new.kept answer → CallStep token name old new answer
  of_runner old new (Ok code) step = step
  of_runner old new (Err (Ran code)) step = step
  of_runner old new (Err Failed) step = step

-- a command of a runner
pub runner_call : (fault : Option ℕ) (token : ℕ) (name : List ℕ) (codes : Codes) (old new : RunnerState) → old.kept ≡ first_codes codes.kept → new.kept ≡ first_codes (codes_after fault None token name codes).kept
    → CallStep token name old new (answer_of fault token name codes)
runner_call fault token name codes old new was is = of_runner None token name codes old new (answer_of fault token name codes) (rw (was, is) (code_step None token name codes fault))

of_port : (side : Side) (token : ℕ) (name : List ℕ) (old new : PortState) (answer : Result ℕ RunnerFail) → new.post ≡ old.post → CodesStep (Some side) token name old.kept new.kept answer → CommandStep side token name old new (port_answer answer)
of_port side token name old new (Ok code) post step = record { post = post; once = step }
of_port side token name old new (Err (Ran code)) post step = (step.0, record { post = post; kept = step.1 })
of_port side token name old new (Err Failed) post (inl same) = inl (record { post = post; kept = same })
of_port side token name old new (Err Failed) post (inr ran) = inr (ran.0, record { post = post; once = ran.1 })

-- a command of a machine
pub port_command : (fault : Option ℕ) (side : Side) (token : ℕ) (name : List ℕ) (codes : Codes) (old new : PortState) → new.post ≡ old.post → old.kept ≡ first_codes codes.kept → new.kept ≡ first_codes (codes_after fault (Some side) token name codes).kept
    → CommandStep side token name old new (port_answer (answer_of fault token name codes))
port_command fault side token name codes old new post was is = of_port side token name old new (answer_of fault token name codes) post (rw (was, is) (code_step (Some side) token name codes fault))
