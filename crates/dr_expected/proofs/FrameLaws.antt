-- What is left of one frame.
use Rattle.std.specs.Prelude.{◌≡◌, ◌↔◌, ◌⊎◌, Bool, true, false, List, [], IsTrue, Result, Ok, Err, IfOk}
use Rattle.std.proofs.Common.{Vec, Global}
use Rattle.dr_base.specs.declared.failure.NoMemory.{NoMemory}
use Rattle.dr_meaning.specs.Expected.{LeavesFrame}
use Rattle.dr_meaning.specs.Reach.{ReachFrame}
use Rattle.std.specs.Bool.{MatchBool}
use Rattle.dr_meaning.specs.Types.{Op}
use Rattle.std.proofs.Common.{refl, sym, ap, ◌∙◌, inl, inr}
use Rattle.dr_outside.specs.Pairs.{Frame as FrameValue}
use Rattle.dr_meaning.specs.declared.stage.StageKind.{StageKind}
use Rattle.dr_meaning.specs.Runs.{Run, op, is_finished}
use Rattle.dr_meaning.specs.Outcomes.{made_frame, split_frame, frozen_frame, FrameOutcome}
use Rattle.dr_meaning.specs.Meaning.{MeansFrame, FrameMeaning, is_prepare_skipped}
use Rattle.dr_expected.specs.declared.frames.Frame.{Frame}
use Rattle.dr_expected.specs.Frames.{frame_value}
use Rattle.dr_expected.specs.Expecting.{Lists, Gains, Adds, Leads, IsFrame, FrameOver, meant_frame, may_skip}
use Rattle.dr_expected.proofs.ShownLaws.{adds-one, adds-two, leads-same, lists-one}

module _ (run : Run) (kind : StageKind) (complete : Bool) (s m : Frame) where
  pub adds_made : (before after : List Frame) → complete ≡ true → frame_value m ≡ made_frame run kind (frame_value s) → Gains IsFrame m before after → Adds IsFrame (FrameOver run kind complete) s before after
  adds_made before after done made gains = rw done (adds-one IsFrame (FrameOver run kind true) s m before after gains (λ y. (
    λ e. (frame_value s, refl, e ∙ made),
    λ (x, e, r). r ∙ ap (λ z. made_frame run kind z) e ∙ sym made,
  )))

  pub adds_made_or_kept : (before mid after : List Frame) → complete ≡ false → frame_value m ≡ made_frame run kind (frame_value s) → Gains IsFrame m before mid → Gains IsFrame s mid after → Adds IsFrame (FrameOver run kind complete) s before after
  adds_made_or_kept before mid after partly made first second = rw partly (adds-two IsFrame (FrameOver run kind false) s m s before mid after first second (λ y. (there y, back y)))
    where
      there : (y : FrameValue) → IsFrame m y ⊎ IsFrame s y → (x : FrameValue) × IsFrame s x × FrameOutcome run kind x y
      there y (inl e) = (frame_value s, refl, inl (e ∙ made))
      there y (inr e) = (frame_value s, refl, inr e)

      back : (y : FrameValue) → (x : FrameValue) × IsFrame s x × FrameOutcome run kind x y → IsFrame m y ⊎ IsFrame s y
      back y (x, e, inl r) = inl (r ∙ ap (λ z. made_frame run kind z) e ∙ sym made)
      back y (x, e, inr r) = inr (r ∙ e)

-- a finished run means one frame, or besides the one with nothing frozen
pub means_frame : (o : Op) (forced : Bool) (run : Run) (x y : FrameValue) → FrameMeaning o forced run x y ↔ MatchBool (may_skip o forced run) ((y ≡ meant_frame o forced run x) ⊎ (y ≡ split_frame run x)) (y ≡ meant_frame o forced run x)
means_frame Op.Testing forced run x y = (λ e. e, λ e. e)
means_frame Op.Cleanup forced run x y = (λ e. e, λ e. e)
means_frame Op.Migrate forced run x y = (λ e. e, λ e. e)
means_frame Op.Failover true run x y = (λ e. e, λ e. e)
means_frame Op.Failover false run x y = go (is_prepare_skipped run) refl
  where
    go : (b : Bool) → is_prepare_skipped run ≡ b → FrameMeaning Op.Failover false run x y ↔ MatchBool (is_prepare_skipped run) ((y ≡ split_frame run (frozen_frame run x)) ⊎ (y ≡ split_frame run x)) (y ≡ split_frame run (frozen_frame run x))
    go true e = rw e (there, back)
      where
        there : (y ≡ split_frame run (frozen_frame run x)) ⊎ (IsTrue true × (y ≡ split_frame run x)) → (y ≡ split_frame run (frozen_frame run x)) ⊎ (y ≡ split_frame run x)
        there (inl h) = inl h
        there (inr (t, h)) = inr h

        back : (y ≡ split_frame run (frozen_frame run x)) ⊎ (y ≡ split_frame run x) → (y ≡ split_frame run (frozen_frame run x)) ⊎ (IsTrue true × (y ≡ split_frame run x))
        back (inl h) = inl h
        back (inr h) = inr (refl, h)
    go false e = rw e (there, λ h. inl h)
      where
        there : (y ≡ split_frame run (frozen_frame run x)) ⊎ (IsTrue false × (y ≡ split_frame run x)) → y ≡ split_frame run (frozen_frame run x)
        there (inl h) = h
        there (inr (t, h)) = absurd (let wrong : false ≡ true = t in cc)
means_frame Op.Reprotect forced run x y = (λ e. e, λ e. e)

module _ (run : Run) (s m : Frame) (means : frame_value m ≡ meant_frame (op run) run.start.forced run (frame_value s)) where
  pub adds_meant : (before after : List Frame) → may_skip (op run) run.start.forced run ≡ false → Gains IsFrame m before after → Adds IsFrame (MeansFrame run) s before after
  adds_meant before after skipped gains = adds-one IsFrame (MeansFrame run) s m before after gains (λ y. (there y, back y))
    where
      there : (y : FrameValue) → IsFrame m y → (x : FrameValue) × IsFrame s x × MeansFrame run x y
      there y e = (frame_value s, refl, (means_frame (op run) run.start.forced run (frame_value s) y).1 (rw skipped (e ∙ means)))

      back : (y : FrameValue) → (x : FrameValue) × IsFrame s x × MeansFrame run x y → IsFrame m y
      back y (x, e, r) =
          let is : y ≡ meant_frame (op run) run.start.forced run x = rw skipped at ((means_frame (op run) run.start.forced run x y).0 r) in
          is ∙ ap (λ z. meant_frame (op run) run.start.forced run z) e ∙ sym means

  pub adds_meant_or_split : (t : Frame) (before mid after : List Frame) → may_skip (op run) run.start.forced run ≡ true → frame_value t ≡ split_frame run (frame_value s) → Gains IsFrame m before mid → Gains IsFrame t mid after → Adds IsFrame (MeansFrame run) s before after
  adds_meant_or_split t before mid after skipped splits first second = adds-two IsFrame (MeansFrame run) s m t before mid after first second (λ y. (there y, back y))
    where
      there : (y : FrameValue) → IsFrame m y ⊎ IsFrame t y → (x : FrameValue) × IsFrame s x × MeansFrame run x y
      there y (inl e) = (frame_value s, refl, (means_frame (op run) run.start.forced run (frame_value s) y).1 (rw skipped (inl (e ∙ means))))
      there y (inr e) = (frame_value s, refl, (means_frame (op run) run.start.forced run (frame_value s) y).1 (rw skipped (inr (e ∙ splits))))

      which : (x y : FrameValue) → IsFrame s x → (y ≡ meant_frame (op run) run.start.forced run x) ⊎ (y ≡ split_frame run x) → IsFrame m y ⊎ IsFrame t y
      which x y e (inl r) = inl (r ∙ ap (λ z. meant_frame (op run) run.start.forced run z) e ∙ sym means)
      which x y e (inr r) = inr (r ∙ ap (λ z. split_frame run z) e ∙ sym splits)

      back : (y : FrameValue) → (x : FrameValue) × IsFrame s x × MeansFrame run x y → IsFrame m y ⊎ IsFrame t y
      back y (x, e, r) = which x y e (rw skipped at ((means_frame (op run) run.start.forced run x y).0 r))

module _ (run walked : Run) (list : List Frame) where
  -- what a finished run leaves is what it means
  pub leaves_meant : (given : List Frame) (result : Result (Vec Frame Global) NoMemory) → walked ≡ run → given ≡ list → is_finished run ≡ true → IfOk result (λ next. Leads IsFrame (MeansFrame walked) given next.items) → IfOk result (λ next. Leads IsFrame (LeavesFrame run) list next.items)
  leaves_meant given (Err e) same is finished h = h
  leaves_meant given (Ok next) same is finished h =
      leads-same IsFrame (MeansFrame run) (LeavesFrame run) list next.items (λ x y. (λ m. rw finished m, λ m. rw finished at m)) (rw (same, is) at h)

  -- and any other one what it may have made
  pub leaves_reached : (result : Result (Vec Frame Global) NoMemory) → walked ≡ run → is_finished run ≡ false → IfOk result (λ next. Leads IsFrame (ReachFrame walked) list next.items) → IfOk result (λ next. Leads IsFrame (LeavesFrame run) list next.items)
  leaves_reached (Err e) same going h = h
  leaves_reached (Ok next) same going h =
      leads-same IsFrame (ReachFrame run) (LeavesFrame run) list next.items (λ x y. (λ m. rw going m, λ m. rw going at m)) (rw same at h)

-- the opening frame alone
pub lists_opening : (s : Frame) (opening : FrameValue) (list : List Frame) → frame_value s ≡ opening → Gains IsFrame s [] list → Lists IsFrame (λ x. x ≡ opening) list
lists_opening s opening list is gains = lists-one IsFrame (λ x. x ≡ opening) s list gains (λ y. (λ e. e ∙ is, λ e. e ∙ sym is))
