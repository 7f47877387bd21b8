-- A failover whose stages are all done leaves each machine at the new side Ready, or set aside within the outcomes of its start.
use Rattle.std.specs.Prelude.{◌≡◌, ℕ, ◌⊎◌, Bool, true, false, List, [], ◌∷◌, Some, find}
use Rattle.std.proofs.Common.{refl, sym, ◌∙◌, inl, inr}
use Rattle.dr_meaning.specs.Types.{Placed, Post}
use Rattle.dr_meaning.specs.declared.stage.StageKind.{StageKind}
use Rattle.dr_base.specs.Lists.{has}
use Rattle.dr_meaning.specs.Visits.{Visit, is_excused}
use Rattle.dr_meaning.specs.Runs.{Run, new}
use Rattle.dr_meaning.specs.Outcomes.{PostOutcome}
use Rattle.dr_meaning.specs.Reach.{Through, is_complete, works, PostStep, stage_of}
use Rattle.dr_meaning.specs.Meaning.{is_wave_of}
use Rattle.dr_meaning.proofs.Lists.{Each, Some_of}
use Rattle.dr_model.proofs.OutcomeLaws.{post_outcome_trans}

module _ (run : Run) (m : ℕ) (w : Placed) where
  abbrev Step : Visit → Post → Post → Type 0
  Step = PostStep run m (new run) w

  -- the visit is of the machine's Start wave, or of a stage that doesn't work it at the new side
  abbrev pub StartsOrLeaves : Visit → Type 0
  StartsOrLeaves v =
      ((is_wave_of StageKind.Start m (stage_of run v) ≡ true) × ((stage_of run v).kind ≡ StageKind.Start) × (works run (stage_of run v) m (new run) ≡ true))
      ⊎ ((is_wave_of StageKind.Start m (stage_of run v) ≡ false) × (works run (stage_of run v) m (new run) ≡ false))

  -- an outcome of a post that is as before or an outcome
  joined : (x mid y : Post) → (mid ≡ x) ⊎ PostOutcome StageKind.Start w x mid → PostOutcome StageKind.Start w mid y → PostOutcome StageKind.Start w x y
  joined x mid y (inl e) out = rw e at out
  joined x mid y (inr o) out = post_outcome_trans StageKind.Start w x mid y o out

  -- what a visit of the Start wave leaves
  start_step : (v : Visit) (mid y : Post) → (stage_of run v).kind ≡ StageKind.Start → works run (stage_of run v) m (new run) ≡ true → Step v mid y → PostOutcome StageKind.Start w mid y
  start_step v mid y kind wk step = go (is_complete m v) refl
    where
      go : (b : Bool) → is_complete m v ≡ b → PostOutcome StageKind.Start w mid y
      go true e = inl (rw (wk, e, kind) at step)
      go false e = rw (wk, e, kind) at step

  -- after any visits: as before, or an outcome of the start
  started : (vs : List Visit) → Each StartsOrLeaves vs → (x y : Post) → Through Step vs x y → (y ≡ x) ⊎ PostOutcome StageKind.Start w x y
  started [] h x y e = inl e
  started (v ∷ vs) h x y (mid, reach, step) = go h.0 (started vs h.1 x mid reach)
    where
      go : StartsOrLeaves v → (mid ≡ x) ⊎ PostOutcome StageKind.Start w x mid → (y ≡ x) ⊎ PostOutcome StageKind.Start w x y
      go (inl (wave, kind, wk)) ih = inr (joined x mid y ih (start_step v mid y kind wk step))
      go (inr (wave, wk)) ih = let same : y ≡ mid = rw wk at step in rw same ih

  pub left_or_ready : (vs : List Visit) → Each StartsOrLeaves vs → Each (λ v. v.done ≡ true) vs → Some_of (λ v. is_wave_of StageKind.Start m (stage_of run v) ≡ true) vs → (x y : Post) → Through Step vs x y → (y ≡ Post.Ready w) ⊎ ((is_excused m (find (λ v. is_wave_of StageKind.Start m (stage_of run v)) vs) ≡ true) × PostOutcome StageKind.Start w x y)
  left_or_ready [] h d some x y e = elim some [ ]
  left_or_ready (v ∷ vs) h d some x y (mid, reach, step) = go h.0 some (left_or_ready vs h.1 d.1)
    where
      excused : (b : Bool) → has v.excused m ≡ b → (stage_of run v).kind ≡ StageKind.Start → works run (stage_of run v) m (new run) ≡ true → (y ≡ Post.Ready w) ⊎ ((is_excused m (Some v) ≡ true) × PostOutcome StageKind.Start w x y)
      excused true e kind wk = inr (e, joined x mid y (started vs h.1 x mid reach) (start_step v mid y kind wk step))
      excused false e kind wk = inl (rw (wk, d.0, e, kind) at step)

      go : StartsOrLeaves v → Some_of (λ v. is_wave_of StageKind.Start m (stage_of run v) ≡ true) (v ∷ vs) → (Some_of (λ v. is_wave_of StageKind.Start m (stage_of run v) ≡ true) vs → (x y : Post) → Through Step vs x y → (y ≡ Post.Ready w) ⊎ ((is_excused m (find (λ v. is_wave_of StageKind.Start m (stage_of run v)) vs) ≡ true) × PostOutcome StageKind.Start w x y)) → (y ≡ Post.Ready w) ⊎ ((is_excused m (find (λ v. is_wave_of StageKind.Start m (stage_of run v)) (v ∷ vs)) ≡ true) × PostOutcome StageKind.Start w x y)
      go (inl (wave, kind, wk)) some rest = rw wave (excused (has v.excused m) refl kind wk)
      go (inr (wave, wk)) (inl on) rest = absurd (let wrong : true ≡ false = sym on ∙ wave in cc)
      go (inr (wave, wk)) (inr later) rest = let same : y ≡ mid = rw wk at step in rw (wave, same) (rest later x mid reach)
