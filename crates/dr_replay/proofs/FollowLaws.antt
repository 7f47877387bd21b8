-- Which record may come, by the run that it belongs to.
use Rattle.std.specs.Prelude.{◌≡◌, Bool, true, false, IsTrue, ◌↔◌, List, Option, Some, None, IsSomeAnd, Result, Ok, Err, IfOk}
use Rattle.std.proofs.Common.{sym, subst}
use Rattle.dr_meaning.specs.Types.{Record}
use Rattle.dr_meaning.specs.Runs.{Setting, Run, run_named, run_at, is_open}
use Rattle.dr_meaning.specs.Lawful.{OpenAnd, MayCome}
use Rattle.dr_replay.specs.Following.{is_start, MayTake}

-- a record that is no Start may come where its run is open and may take it
pub come_by_run : (setting : Setting) (runs : List Run) (item : Record) → is_start item ≡ false → MayCome setting runs item ↔ OpenAnd (run_named item) runs (λ run. MayTake runs run item)
come_by_run setting runs (Record.Estate bytes) e = (λ h. absurd h, none (run_at 0 runs))
  where
    none : (o : Option Run) → IsSomeAnd o (λ run. IsTrue (is_open run) × ⊥) → ⊥
    none None h = h
    none (Some run) h = h.1
come_by_run setting runs (Record.Start row) e = absurd cc
come_by_run setting runs (Record.Attempt n moment) e = (λ h. h, λ h. h)
come_by_run setting runs (Record.Begin n stage) e = (λ h. h, λ h. h)
come_by_run setting runs (Record.Done n stage) e = (λ h. h, λ h. h)
come_by_run setting runs (Record.Skip n stage machine) e = (λ h. h, λ h. h)
come_by_run setting runs (Record.Aside n machine by) e = (λ h. h, λ h. h)
come_by_run setting runs (Record.Answer n step text) e = (λ h. h, λ h. h)
come_by_run setting runs (Record.Code n token machine code) e = (λ h. h, λ h. h)
come_by_run setting runs (Record.Finish n moment machines) e = (λ h. h, λ h. h)

-- the same of a run that was found and is open
pub come_of_open : (setting : Setting) (runs : List Run) (item : Record) (run : Run) → is_start item ≡ false → run_at (run_named item) runs ≡ Some run → is_open run ≡ true → MayTake runs run item ↔ MayCome setting runs item
come_of_open setting runs item run no_start e stays =
    let law : MayCome setting runs item ↔ OpenAnd (run_named item) runs (λ r. MayTake runs r item) = come_by_run setting runs item no_start in
    let Q : Run → Type 0 = λ r. IsTrue (is_open r) × MayTake runs r item in
    let its : IsSomeAnd (run_at (run_named item) runs) Q ↔ Q run = subst (λ o. IsSomeAnd o Q ↔ Q run) (sym e) (λ h. h, λ h. h) in
    (λ k. law.1 (its.1 (stays, k)), λ k. (its.0 (law.0 k)).1)

-- an answer that tells one fact tells another that is the same
pub if_ok_told : {E : Type 0} (r : Result Bool E) (P Q : Type 0) → P ↔ Q → IfOk r (λ b. IsTrue b ↔ P) → IfOk r (λ b. IsTrue b ↔ Q)
if_ok_told (Ok b) P Q h k = (λ t. h.0 (k.0 t), λ q. k.1 (h.1 q))
if_ok_told (Err e) P Q h k = k
