-- A machine is left where the last visit of its Start stage excuses it.
use Rattle.std.specs.Prelude.{◌≡◌, ℕ, ◌+◌, ◌<◌, ◌≤◌, ◌==◌, ◌⊎◌, Bool, true, false, List, [], ◌∷◌, None, length, find}
use Rattle.std.proofs.Common.{refl, sym, ap, ◌∙◌, inl, inr, arith}
use Rattle.std.proofs.lemmas.Bool.{eq-eqb, ne_eqb, cases_lt}
use Rattle.dr_plan.specs.Orders.{IsOrdered}
use Rattle.dr_meaning.specs.declared.stage.StageKind.{StageKind}
use Rattle.dr_meaning.specs.declared.stage.Stage.{Stage}
use Rattle.dr_meaning.specs.Stages.{no_stage, stage_at}
use Rattle.dr_meaning.specs.Visits.{Visit, visits, last_visit, is_excused}
use Rattle.dr_meaning.specs.Runs.{Run, op, stages_of}
use Rattle.dr_meaning.specs.Meaning.{is_wave_of, is_left}
use Rattle.dr_model.proofs.EqualLaws.{IsSingle}
use Rattle.dr_model.proofs.StartWaves.{start_single}
use Rattle.dr_walk.proofs.RouteStages.{beyond}

-- equal tests find the same
find-same : {X : Type 0} (p q : X → Bool) → ((x : X) → p x ≡ q x) → (xs : List X) → find p xs ≡ find q xs
find-same p q e [] = refl
find-same p q e (x ∷ xs) = rw (e x, find-same p q e xs) refl

-- where one number alone has a stage that passes, its visits are those that pass
passing : (stages : List Stage) (test : Stage → Bool) → IsSingle stages test → (n : ℕ) → test (stage_at stages n) ≡ true → (v : Visit) → test (stage_at stages v.stage) ≡ v.stage == n
passing stages test single n here v = go (test (stage_at stages v.stage)) refl
  where
    go : (b : Bool) → test (stage_at stages v.stage) ≡ b → test (stage_at stages v.stage) ≡ v.stage == n
    go true e = e ∙ sym (eq-eqb v.stage n (single v.stage n e here))
    go false e = e ∙ sym (ne_eqb v.stage n (λ same. let wrong : true ≡ false = sym here ∙ ap (λ k. test (stage_at stages k)) (sym same) ∙ e in cc))

pub left_at : (run : Run) → IsOrdered run.plan → (m n : ℕ) → is_wave_of StageKind.Start m (stage_at (stages_of run) n) ≡ true → is_left run m ≡ is_excused m (last_visit n run.log)
left_at run ordered m n wave =
    ap (λ o. is_excused m o)
    (find-same (λ v. is_wave_of StageKind.Start m (stage_at (stages_of run) v.stage)) (λ v. v.stage == n)
    (passing (stages_of run) (is_wave_of StageKind.Start m) (start_single run.plan ordered m (op run) run.start.forced) n wave) (visits run.log))

find-none : {X : Type 0} (p : X → Bool) → ((x : X) → p x ≡ false) → (xs : List X) → find p xs ≡ None
find-none p e [] = refl
find-none p e (x ∷ xs) = rw (e x) (find-none p e xs)

-- a machine that no stage starts isn't left
pub not_left : (run : Run) (m : ℕ) → ((n : ℕ) → is_wave_of StageKind.Start m (stage_at (stages_of run) n) ≡ false) → is_left run m ≡ false
not_left run m none = ap (λ o. is_excused m o) (find-none (λ v. is_wave_of StageKind.Start m (stage_at (stages_of run) v.stage)) (λ v. none v.stage) (visits run.log))

-- the number of a wave is that of a stage
pub wave_within : (run : Run) (m n : ℕ) → is_wave_of StageKind.Start m (stage_at (stages_of run) n) ≡ true → (1 ≤ n) × (n ≤ length (stages_of run))
wave_within run m n wave = (above (cases_lt n 1), below (cases_lt (length (stages_of run)) n))
  where
    none : (n < 1) ⊎ (1 + length (stages_of run) ≤ n) → ⊥
    none out = let e : stage_at (stages_of run) n ≡ no_stage = beyond 1 (stages_of run) n out in let wrong : true ≡ false = sym wave ∙ ap (λ s. is_wave_of StageKind.Start m s) e in cc

    above : (n < 1) ⊎ (1 ≤ n) → 1 ≤ n
    above (inl lt) = absurd (none (inl lt))
    above (inr le) = le

    below : (length (stages_of run) < n) ⊎ (n ≤ length (stages_of run)) → n ≤ length (stages_of run)
    below (inl lt) = absurd (none (inr (omega (arith, lt))))
    below (inr le) = le
