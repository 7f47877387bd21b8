-- Steps, part by part.
use Rattle.std.specs.Prelude.{Option, Some, None, Result, Ok, Err, is_ok, IfOk}
use Rattle.std.proofs.Common.{◌≡◌, ℕ, ◌+◌, ◌∙◌, ◌⊎◌, inl, inr, true, false, List, [], ◌∷◌, refl, sym}
use Rattle.std.proofs.lemmas.List.{append-nil}
use Rattle.dr_base.specs.declared.side.Side.{Side}
use Rattle.dr_outside.specs.Commands.{code_of}
use Rattle.dr_outside.specs.declared.machine.PortFail.{PortFail}
use Rattle.dr_outside.specs.declared.machine.PortFail.TheVariants.{Failed, Wrong, Ran}
use Rattle.dr_outside.specs.Machines.{PortState, SameMachine, CommandRuns, CommandStep}
use Rattle.dr_wave.specs.declared.slot.Found.{Found}
use Rattle.dr_wave.specs.Commands.{Command, commands_from, CommandsRun, AreCodes}
use Rattle.dr_wave.specs.Ends.{CommandEnd}
use Rattle.dr_wave.proofs.KeptLaws.{unkept_none, unkept_some, none_ran, last_found, first_from, all_from, front_from, codes-append, kept_later, keeps_codes, all_is_first}

-- One command ------------------------------------------------------------------------------------------

module _ (side : Side) (command : Command) (s0 s1 s2 : PortState) (same : SameMachine s0 s1) where
  pub not_run : CommandsRun false side (command ∷ []) s0 s1
  not_run = record { post = same.post; ran = rw same.kept (none_ran side (command ∷ []) s0.kept) }

  pub kept_already : (code : ℕ) → code_of s0.kept command.token ≡ Some code → CommandsRun true side (command ∷ []) s0 s1
  kept_already code is = record {
    post = same.post;
    ran = record {
      codes = [];
      all = rw (unkept_some s0.kept command [] code is) refl;
      grew = rw (unkept_some s0.kept command [] code is) (same.kept ∙ sym (append-nil s0.kept));
    };
  }

  module _ (code : ℕ) (runs : CommandRuns side command.token command.name s1 s2 code) where
    none : code_of s0.kept command.token ≡ None
    none = rw same.kept at runs.once.first

    pub run_now : CommandsRun true side (command ∷ []) s0 s2
    run_now = record {
      post = runs.post ∙ same.post;
      ran = record {
        codes = code ∷ [];
        all = rw (unkept_none s0.kept command [] none) refl;
        grew = rw (unkept_none s0.kept command [] none) (rw same.kept at runs.once.kept);
      };
    }

    pub run_first : CommandsRun false side (command ∷ []) s0 s2
    run_first = record { post = run_now.post; ran = record { codes = run_now.ran.codes; grew = run_now.ran.grew } }

    pub code_is : code_of s2.kept command.token ≡ Some code
    code_is = rw runs.once.kept (last_found s1.kept (record { token = command.token; code = code; name = command.name; side = Some side }) runs.once.first)

  -- a command that failed ran or didn't
  pub failed_once : SameMachine s1 s2 ⊎ ((code : ℕ) × CommandRuns side command.token command.name s1 s2 code) → CommandsRun false side (command ∷ []) s0 s2
  failed_once (inl still) = record { post = still.post ∙ same.post; ran = rw still.kept not_run.ran }
  failed_once (inr (code, runs)) = run_first code runs

-- the same by the command's answer, of which the step makes its own
module _ (side : Side) (command : Command) (s0 s1 s2 : PortState) (same : SameMachine s0 s1) where
  pub ends_run : (answer : Result ℕ PortFail) (end : Result ℕ Found) → CommandStep side command.token command.name s1 s2 answer → CommandEnd side answer end → CommandsRun (is_ok end) side (command ∷ []) s0 s2
  ends_run (Ok code) end step is = rw is (run_now side command s0 s1 s2 same code step)
  ends_run (Err Failed) end step is = rw is (failed_once side command s0 s1 s2 same step)
  ends_run (Err (Wrong post)) end step is = absurd step
  ends_run (Err (Ran code)) end step is =
      let still : SameMachine s0 s2 = record { post = step.1.post ∙ same.post; kept = step.1.kept ∙ same.kept } in
      rw is (kept_already side command s0 s2 s2 still code (rw same.kept at step.0))

  pub ends_told : (answer : Result ℕ PortFail) (end : Result ℕ Found) → CommandStep side command.token command.name s1 s2 answer → CommandEnd side answer end → IfOk end (λ code. code_of s2.kept command.token ≡ Some code)
  ends_told (Ok code) end step is = rw is (code_is side command s0 s1 s2 same code step)
  ends_told (Err Failed) end step is = rw is tt
  ends_told (Err (Wrong post)) end step is = absurd step
  ends_told (Err (Ran code)) end step is = rw is (rw step.1.kept step.0)

-- Two commands -----------------------------------------------------------------------------------------

module _ (side : Side) (root i : ℕ) (first second : Option (List ℕ)) (s0 s1 s2 : PortState) where
  pub both_run : CommandsRun true side (commands_from root i (first ∷ [])) s0 s1 → CommandsRun true side (commands_from root (i + 1) (second ∷ [])) s1 s2 → CommandsRun true side (commands_from root i (first ∷ second ∷ [])) s0 s2
  both_run a b = record { post = b.post ∙ a.post; ran = all_from side root i (first ∷ []) (second ∷ []) s0.kept s1.kept s2.kept a.ran b.ran }

  pub then_fails : CommandsRun true side (commands_from root i (first ∷ [])) s0 s1 → CommandsRun false side (commands_from root (i + 1) (second ∷ [])) s1 s2 → CommandsRun false side (commands_from root i (first ∷ second ∷ [])) s0 s2
  then_fails a b = record { post = b.post ∙ a.post; ran = first_from side root i (first ∷ []) (second ∷ []) s0.kept s1.kept s2.kept a.ran b.ran }

pub fails_at_once : (side : Side) (root i : ℕ) (first second : Option (List ℕ)) (s0 s1 : PortState) → CommandsRun false side (commands_from root i (first ∷ [])) s0 s1 → CommandsRun false side (commands_from root i (first ∷ second ∷ [])) s0 s1
fails_at_once side root i first second s0 s1 a = record { post = a.post; ran = front_from side root i (first ∷ []) (second ∷ []) s0.kept s1.kept a.ran }

-- both codes are kept
pub both_told : (side : Side) (root i : ℕ) (first second : Option (List ℕ)) (s1 s2 : PortState) (code next : Option ℕ) → AreCodes s1.kept root i (first ∷ []) (code ∷ []) → CommandsRun true side (commands_from root (i + 1) (second ∷ [])) s1 s2 →
    AreCodes s2.kept root (i + 1) (second ∷ []) (next ∷ []) → AreCodes s2.kept root i (first ∷ second ∷ []) (code ∷ next ∷ [])
both_told side root i first second s1 s2 code next a ran b =
    codes-append s2.kept root i (first ∷ []) (second ∷ []) (code ∷ []) (next ∷ [])
    (kept_later s1.kept s2.kept (keeps_codes side _ s1.kept s2.kept (all_is_first side _ s1.kept s2.kept ran.ran)) root i (first ∷ []) (code ∷ []) a) b
