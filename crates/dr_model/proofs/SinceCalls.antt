-- A change while no record comes, by calls of the array and of machines and by commands, goes on from the entry of a line.
use Rattle.std.specs.Prelude.{◌≡◌, ℕ, zero, suc, Bool, true, false, ◌||◌, List, [], ◌∷◌, ◌++◌, Contains, Some}
use Rattle.std.specs.List.{list_any}
use Rattle.std.proofs.Common.{refl, sym, ap, ◌∙◌, inr, subst, arith}
use Rattle.std.proofs.lemmas.List.{append-nil}
use Rattle.dr_meaning.specs.Types.{ArrayCall, Record}
use Rattle.dr_meaning.specs.Worlds.{World}
use Rattle.dr_meaning.specs.Stages.{stage_at}
use Rattle.dr_meaning.specs.Visits.{begun}
use Rattle.dr_meaning.specs.Runs.{Setting, Run, number, stages_of, is_open, run_at}
use Rattle.dr_meaning.specs.Calls.{call_of, CallsPairs, CallsMachines, OnlyKeepsCodes}
use Rattle.dr_meaning.specs.Journals.{HasRecords, Stands}
use Rattle.dr_meaning.specs.Sound.{IsSoundBy}
use Rattle.dr_meaning.specs.Images.{BeginWith}
use Rattle.dr_meaning.specs.Changes.{is_of_run, IsMachineCommand, IsStepCommand, GrowsBy, ChangesWorld}
use Rattle.dr_meaning.specs.Since.{Comes, Since}
use Rattle.dr_model.proofs.FileLaws.{one_stand, sound_by_told, told_sound}
use Rattle.dr_model.proofs.Standing.{regular_of}
use Rattle.dr_model.proofs.CallSound.{call_sound}
use Rattle.dr_model.proofs.MachineSound.{machines_sound, kept_sound}
use Rattle.dr_model.proofs.MoreRecords.{or_right}
use Rattle.dr_model.proofs.ChangedOn.{Rises, changed_step}
use Rattle.dr_model.proofs.CallChange.{calls_change, calls_rise}
use Rattle.dr_model.proofs.MachineChange.{machines_change, machines_rise, commands_change, commands_rise}
use Rattle.dr_model.proofs.SinceLaws.{Came, came, comes_kept}

-- New records are among those that came --------------------------------------------------------------------------

any_listed : (p : Record → Bool) (more : List Record) (item : Record) → Contains more item → p item ≡ true → list_any p more ≡ true
any_listed p [] item (k, below, e) is = absurd (omega arith)
any_listed p (x ∷ more) item (zero, below, e) is = rw (ap p e ∙ is) refl
any_listed p (x ∷ more) item (suc k, below, e) is = or_right (p x) _ (any_listed p more item (k, omega arith, e) is)

any_among : (p : Record → Bool) (added more : List Record) → ((item : Record) → Contains added item → Contains more item) → list_any p added ≡ true → list_any p more ≡ true
any_among p [] more among e = absurd cc
any_among p (x ∷ added) more among e = go (p x) refl e (any_among p added more (λ item c. among item (suc c.0, omega (arith, c.1), c.2)))
  where
    go : (b : Bool) → p x ≡ b → b || list_any p added ≡ true → (list_any p added ≡ true → list_any p more ≡ true) → list_any p more ≡ true
    go true is h rest = any_listed p more x (among x (0, omega arith, refl)) is
    go false is h rest = rest h

-- A change while no record comes -----------------------------------------------------------------------------------------

abbrev StepIn : List Record → World → World → Setting → List Run → Type 0
StepIn more before after setting runs = ChangesWorld setting runs more before after × Rises setting runs before after

module _ (old_images images : List ℕ → Type 0) (setting : Setting) (records : List Record) (runs : List Run) (stand : Stands setting records runs) (old before after : World) (added : List Record) (all : (file : List ℕ) → images file → HasRecords records file)
    (s : Since old_images old added images before) where
  sound_before : (file : List ℕ) → images file → IsSoundBy setting runs before
  sound_before file here = sound_by_told setting runs before file (record { records = records; has = all file here; stand = stand }) (s.sound file here)

  kept : BeginWith images records
  kept file here = ([], subst (λ l. HasRecords l file) (sym (append-nil records)) (all file here))

  pub since_step : ((file : List ℕ) → images file → (more : List Record) → ((item : Record) → Contains added item → Contains more item) → StepIn more before after setting runs) → (IsSoundBy setting runs before → IsSoundBy setting runs after) → Since old_images old added images after
  since_step step keeps = record {
    sound = λ file here. told_sound setting runs after file (record { records = records; has = all file here; stand = stand }) (keeps (sound_before file here));
    comes = λ file here. inr (comes file here (came old_images images old before added records file (all file here) (s.sound file here) (s.comes file here)));
    starts = s.starts;
  }
    where
      comes : (file : List ℕ) → images file → Came old_images old before added records → Comes old_images images old after added file
      comes file here c = comes_kept old_images images old after added records file (all file here) kept
          (record {
            entry = c.entry;
            was = c.was;
            had = c.had;
            has_had = c.has_had;
            more = c.more;
            are = c.are;
            changed = changed_step (c.had ++ c.more) c.more old before after c.changed by_step (λ none. absurd (let wrong : Record.Estate stand.bytes ∷ stand.rest ≡ [] = sym stand.are ∙ c.are ∙ none in cc));
            among = c.among;
          })
        where
          by_step : (st : Setting) (rs : List Run) → Stands st (c.had ++ c.more) rs → StepIn c.more before after st rs
          by_step st rs q =
              let (settings, lists) = one_stand setting st (c.had ++ c.more) runs rs (subst (λ l. Stands setting l runs) c.are stand) q in
              subst (λ l. StepIn c.more before after st l) lists (subst (λ x. StepIn c.more before after x runs) settings (step file here c.more c.among))

  -- a call of the array
  pub since_calls : (r : Run) (stage : ℕ) (call : ArrayCall) → list_any (is_of_run (number r)) added ≡ true → run_at (number r) runs ≡ Some r → is_open r ≡ true → begun r.log ≡ Some stage → call_of r (stage_at (stages_of r) stage).kind ≡ Some call → CallsPairs setting.estate r call before after → Since old_images old added images after
  since_calls r stage call new at_n going its makes calls =
      since_step
      (λ file here more among.
      let in_more = any_among (is_of_run (number r)) added more among new in
      (calls_change setting records runs stand r at_n going stage call makes before after calls (sound_before file here) more in_more, calls_rise setting records runs stand r at_n going stage call makes before after calls (sound_before file here) more in_more))
      keeps
    where
      keeps : IsSoundBy setting runs before → IsSoundBy setting runs after
      keeps sound =
          subst (λ l. IsSoundBy setting l after) (sym stand.runs_are)
          (call_sound setting stand.rest stand.lawful (regular_of setting records runs stand) r (subst (λ l. run_at (number r) l ≡ Some r) stand.runs_are at_n) going stage its call makes before after calls (subst (λ l. IsSoundBy setting l before) stand.runs_are sound))

  -- the work of a stage on machines
  pub since_machines : (r : Run) (stage : ℕ) → list_any (is_of_run (number r)) added ≡ true → run_at (number r) runs ≡ Some r → is_open r ≡ true → begun r.log ≡ Some stage → CallsMachines setting.estate r (stage_at (stages_of r) stage) before after → ((m : ℕ) → GrowsBy (IsMachineCommand runs m) (before.kept m) (after.kept m)) → Since old_images old added images after
  since_machines r stage new at_n going its calls grows =
      since_step
      (λ file here more among.
      let in_more = any_among (is_of_run (number r)) added more among new in
      (machines_change setting records runs stand r at_n going stage before after calls more in_more grows, machines_rise setting records runs stand r at_n going stage before after calls more in_more))
      keeps
    where
      keeps : IsSoundBy setting runs before → IsSoundBy setting runs after
      keeps sound =
          subst (λ l. IsSoundBy setting l after) (sym stand.runs_are)
          (machines_sound setting stand.rest stand.lawful (regular_of setting records runs stand) r (subst (λ l. run_at (number r) l ≡ Some r) stand.runs_are at_n) going stage its before after calls (subst (λ l. IsSoundBy setting l before) stand.runs_are sound))

  -- commands alone
  pub since_commands : OnlyKeepsCodes before after → ((m : ℕ) → GrowsBy (IsMachineCommand runs m) (before.kept m) (after.kept m)) → GrowsBy (IsStepCommand runs) before.runner after.runner → Since old_images old added images after
  since_commands only grows runner =
      since_step (λ file here more among. (commands_change setting runs more before after only grows runner, commands_rise setting runs more before after only))
      (kept_sound before after only setting runs)
