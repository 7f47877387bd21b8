-- A migration whose stages are all done makes of frames and posts what a migration means.
use Rattle.std.specs.Prelude.{◌≡◌, ℕ, ◌⊎◌, Bool, true, false, cond, ◌&&◌}
use Rattle.std.proofs.Common.{refl, sym, ap, ◌∙◌, inl, inr}
use Rattle.dr_meaning.specs.Types.{Side, Sides, Op, Link, Placed, Post, PlanMachine}
use Rattle.dr_meaning.specs.declared.stage.StageKind.{StageKind}
use Rattle.dr_meaning.specs.declared.stage.Stage.{Stage}
use Rattle.dr_outside.specs.Pairs.{Frame}
use Rattle.dr_base.specs.Sides.{other, same_side}
use Rattle.dr_outside.specs.BySide.{at, put}
use Rattle.dr_base.specs.Lists.{has}
use Rattle.dr_meaning.specs.Stages.{stages, recovery, array_stage, wind_down, start_up}
use Rattle.dr_meaning.specs.Runs.{Run, op, new, stages_of}
use Rattle.dr_meaning.specs.Outcomes.{made_frame, stopped, split_frame, frozen_frame}
use Rattle.dr_meaning.specs.Reach.{ReachFrame, ReachPost}
use Rattle.dr_meaning.specs.Meaning.{MeansFrame}
use Rattle.dr_meaning.specs.StartUp.{is_started}
use Rattle.dr_meaning.proofs.Lists.{Each, each-map, Some_of, some_of-left, some_of-right, some_of-map}
use Rattle.dr_model.proofs.StageLaws.{each-recovery, IsMachineOf, Waves, Starts, starts_machine, winds_down_machine}
use Rattle.dr_model.proofs.WalkedLaws.{IsWalked, frame_keeps, frame_sets, post_made, post_keeps, post_sets}
use Rattle.dr_model.proofs.WholeTest.{callout_frame, start_frame, callout_post, start_old_post, start_new_post, not_worked, same_side_itself}

pub stop_frame : (run : Run) (s : Stage) → s.kind ≡ StageKind.Stop → (x : Frame) → made_frame run s.kind x ≡ x
stop_frame run s e x = rw e refl

-- writable at the new side alone
abbrev pub turned : Side → Sides Bool → Sides Bool
turned old w = put (other old) true (put old false w)

pub turned-frozen : (old : Side) (w : Sides Bool) → turned old (put old false w) ≡ turned old w
turned-frozen Side.A w = refl
turned-frozen Side.B w = refl

pub turned-opened : (old : Side) (w : Sides Bool) → turned old (put (other old) true w) ≡ turned old w
turned-opened Side.A w = refl
turned-opened Side.B w = refl

pub turned-same : (old : Side) (w : Sides Bool) → at old w ≡ false → at (other old) w ≡ true → turned old w ≡ w
turned-same Side.A w e f = λ i. record { a = sym e i; b = sym f i }
turned-same Side.B w e f = λ i. record { a = sym f i; b = sym e i }

pub at-put : (side : Side) (b : Bool) (w : Sides Bool) → at side (put side b w) ≡ b
at-put Side.A b w = refl
at-put Side.B b w = refl

pub at-put_other : (side : Side) (b : Bool) (w : Sides Bool) → at side (put (other side) b w) ≡ at side w
at-put_other Side.A b w = refl
at-put_other Side.B b w = refl

pub at_other-put : (side : Side) (b : Bool) (w : Sides Bool) → at (other side) (put side b w) ≡ at (other side) w
at_other-put Side.A b w = refl
at_other-put Side.B b w = refl

abbrev pub moved : Run → Frame → Frame
moved run x = split_frame run (frozen_frame run x)

module _ (run : Run) (e : stages_of run ≡ recovery run.plan) (w : IsWalked run) where
  -- what Prepare and Split keep or set, all stages do
  sets : {A : Type 0} (f : Frame → A) (a : A) → ((x : Frame) → (f (made_frame run StageKind.Prepare x) ≡ f x) ⊎ (f (made_frame run StageKind.Prepare x) ≡ a)) → ((x : Frame) → (f (made_frame run StageKind.Split x) ≡ f x) ⊎ (f (made_frame run StageKind.Split x) ≡ a)) → Each (λ s. (x : Frame) → (f (made_frame run s.kind x) ≡ f x) ⊎ (f (made_frame run s.kind x) ≡ a)) (stages_of run)
  sets f a prepare split =
      rw e (each-recovery (λ s. (x : Frame) → (f (made_frame run s.kind x) ≡ f x) ⊎ (f (made_frame run s.kind x) ≡ a)) run.plan
      (λ s c x. inl (ap f (callout_frame run s c x))) (λ s k x. inl (ap f (start_frame run s k x))) (λ s k x. inl (ap f (stop_frame run s k x)))
      (λ x. inl refl) prepare (λ x. inl refl) split)

  keeps : {A : Type 0} (f : Frame → A) → ((x : Frame) → f (made_frame run StageKind.Prepare x) ≡ f x) → ((x : Frame) → f (made_frame run StageKind.Split x) ≡ f x) → Each (λ s. (x : Frame) → f (made_frame run s.kind x) ≡ f x) (stages_of run)
  keeps f prepare split =
      rw e (each-recovery (λ s. (x : Frame) → f (made_frame run s.kind x) ≡ f x) run.plan
      (λ s c x. ap f (callout_frame run s c x)) (λ s k x. ap f (start_frame run s k x)) (λ s k x. ap f (stop_frame run s k x))
      (λ x. refl) prepare (λ x. refl) split)

  has_prepare : (P : Stage → Type 0) → P (array_stage StageKind.Prepare) → Some_of P (stages_of run)
  has_prepare P p = rw e (inr (some_of-right P (wind_down StageKind.Stop run.plan) _ (inl p)))

  has_split : (P : Stage → Type 0) → P (array_stage StageKind.Split) → Some_of P (stages_of run)
  has_split P p = rw e (inr (some_of-right P (wind_down StageKind.Stop run.plan) _ (inr (inr (inl p)))))

  pub recovery_frame : (x y : Frame) → ReachFrame run x y → y ≡ moved run x
  recovery_frame x y reach = same ∙ kept
    where
      kept : moved run y ≡ moved run x
      kept = frame_keeps run (moved run)
          (keeps (moved run)
          (λ x. ap (λ v. record x { link = Link.Split; writable = v }) (turned-frozen run.old x.writable))
          (λ x. ap (λ v. record x { link = Link.Split; writable = v }) (turned-opened run.old x.writable)))
          w x y reach

      is_split : y.link ≡ Link.Split
      is_split = frame_sets run (λ x. x.link) Link.Split
          (sets (λ x. x.link) Link.Split (λ x. inl refl) (λ x. inr refl))
          (has_split (λ s. (x : Frame) → (made_frame run s.kind x).link ≡ Link.Split) (λ x. refl)) w x y reach

      frozen : at run.old y.writable ≡ false
      frozen = frame_sets run (λ x. at run.old x.writable) false
          (sets (λ x. at run.old x.writable) false (λ x. inr (at-put run.old false x.writable)) (λ x. inl (at-put_other run.old true x.writable)))
          (has_prepare (λ s. (x : Frame) → at run.old (made_frame run s.kind x).writable ≡ false) (λ x. at-put run.old false x.writable)) w x y reach

      opened : at (new run) y.writable ≡ true
      opened = frame_sets run (λ x. at (new run) x.writable) true
          (sets (λ x. at (new run) x.writable) true (λ x. inl (at_other-put run.old false x.writable)) (λ x. inr (at-put (new run) true x.writable)))
          (has_split (λ s. (x : Frame) → at (new run) (made_frame run s.kind x).writable ≡ true) (λ x. at-put (new run) true x.writable)) w x y reach

      same : y ≡ moved run y
      same = λ i. record { source = y.source; link = is_split i; writable = sym (turned-same run.old y.writable frozen opened) i; snapshot = y.snapshot }

pub migrate_frame : (run : Run) → op run ≡ Op.Migrate → IsWalked run → (x y : Frame) → ReachFrame run x y → MeansFrame run x y
migrate_frame run e w x y reach = rw e (recovery_frame run (ap (λ o. stages run.plan o run.start.forced) e) w x y reach)

-- Posts

pub stopped-stopped : (x : Post) → stopped (stopped x) ≡ stopped x
stopped-stopped Post.Placeholder = refl
stopped-stopped (Post.Off p) = refl
stopped-stopped (Post.On p) = refl
stopped-stopped (Post.Ready p) = refl

pub is_running-stopped : (x : Post) → is_started (stopped x) ≡ false
is_running-stopped Post.Placeholder = refl
is_running-stopped (Post.Off p) = refl
is_running-stopped (Post.On p) = refl
is_running-stopped (Post.Ready p) = refl

pub stopped-same : (x : Post) → is_started x ≡ false → stopped x ≡ x
stopped-same Post.Placeholder e = refl
stopped-same (Post.Off p) e = refl
stopped-same (Post.On p) e = absurd cc
stopped-same (Post.Ready p) e = absurd cc

pub side_of_other : (side : Side) → same_side (other side) side ≡ false
side_of_other Side.A = refl
side_of_other Side.B = refl

-- a Stop wave stops the machine at the old side, or doesn't work it
pub stop_old_post : (run : Run) (machine : ℕ) (wanted : Placed) (s : Stage) → s.kind ≡ StageKind.Stop → (x : Post) → (post_made run machine run.old wanted s x ≡ x) ⊎ (post_made run machine run.old wanted s x ≡ stopped x)
stop_old_post run machine wanted s e x = rw (e, same_side_itself run.old) (go (has s.machines machine))
  where
    go : (b : Bool) → (cond (b && true) (stopped x) x ≡ x) ⊎ (cond (b && true) (stopped x) x ≡ stopped x)
    go true = inr refl
    go false = inl refl

pub stop_new_post : (run : Run) (machine : ℕ) (wanted : Placed) (s : Stage) → s.kind ≡ StageKind.Stop → (x : Post) → post_made run machine (new run) wanted s x ≡ x
stop_new_post run machine wanted s e x = not_worked (has s.machines machine) _ _ _ (rw e (side_of_other run.old))

keeps_stopped : (x y : Post) → (y ≡ x) ⊎ (y ≡ stopped x) → stopped y ≡ stopped x
keeps_stopped x y (inl e) = ap stopped e
keeps_stopped x y (inr e) = ap stopped e ∙ stopped-stopped x

stops_or_keeps : (x y : Post) → (y ≡ x) ⊎ (y ≡ stopped x) → (is_started y ≡ is_started x) ⊎ (is_started y ≡ false)
stops_or_keeps x y (inl e) = inl (ap is_started e)
stops_or_keeps x y (inr e) = inr (ap is_started e ∙ is_running-stopped x)

module _ (run : Run) (m : PlanMachine) (wanted : Placed) (e : stages_of run ≡ recovery run.plan) (of_plan : IsMachineOf run.plan m) (w : IsWalked run) where
  pub recovery_old_post : (x y : Post) → ReachPost run m.machine run.old wanted x y → y ≡ stopped x
  recovery_old_post x y reach = sym (stopped-same y off) ∙ kept
    where
      P : Post → Post → Type 0
      P x z = (z ≡ x) ⊎ (z ≡ stopped x)

      each : Each (λ s. (x : Post) → P x (post_made run m.machine run.old wanted s x)) (recovery run.plan)
      each = each-recovery (λ s. (x : Post) → P x (post_made run m.machine run.old wanted s x)) run.plan (λ s c x. inl (callout_post run m.machine run.old wanted s c x)) (λ s k x. inl (start_old_post run m.machine wanted s k x)) (stop_old_post run m.machine wanted) (λ x. inl refl) (λ x. inl refl) (λ x. inl refl) (λ x. inl refl)

      kept : stopped y ≡ stopped x
      kept = post_keeps run m.machine run.old wanted stopped
          (rw e (each-map (λ s. (x : Post) → P x (post_made run m.machine run.old wanted s x)) (λ s. (x : Post) → stopped (post_made run m.machine run.old wanted s x) ≡ stopped x) (λ s h x. keeps_stopped x _ (h x)) (recovery run.plan) each)) w x y reach

      off : is_started y ≡ false
      off = post_sets run m.machine run.old wanted is_started false
          (rw e (each-map (λ s. (x : Post) → P x (post_made run m.machine run.old wanted s x)) (λ s. (x : Post) → (is_started (post_made run m.machine run.old wanted s x) ≡ is_started x) ⊎ (is_started (post_made run m.machine run.old wanted s x) ≡ false)) (λ s h x. stops_or_keeps x _ (h x)) (recovery run.plan) each))
          (rw e (inr (some_of-left _ (wind_down StageKind.Stop run.plan) _ (some_of-map (Waves StageKind.Stop m.machine) (λ s. (x : Post) → is_started (post_made run m.machine run.old wanted s x) ≡ false) (λ s h x. rw (h.0, h.1, same_side_itself run.old) (is_running-stopped x)) (wind_down StageKind.Stop run.plan) (winds_down_machine StageKind.Stop run.plan m of_plan)))))
          w x y reach

  pub recovery_new_post : (x y : Post) → ReachPost run m.machine (new run) wanted x y → y ≡ Post.Ready wanted
  recovery_new_post x y reach =
      post_sets run m.machine (new run) wanted (λ x. x) (Post.Ready wanted)
      (rw e (each-recovery (λ s. (x : Post) → (post_made run m.machine (new run) wanted s x ≡ x) ⊎ (post_made run m.machine (new run) wanted s x ≡ Post.Ready wanted)) run.plan (λ s c x. inl (callout_post run m.machine (new run) wanted s c x)) (start_new_post run m.machine wanted) (λ s k x. inl (stop_new_post run m.machine wanted s k x)) (λ x. inl refl) (λ x. inl refl) (λ x. inl refl) (λ x. inl refl)))
      (rw e (inr (some_of-right _ (wind_down StageKind.Stop run.plan) _ (inr (inr (inr (some_of-map (Starts m.machine) (λ s. (x : Post) → post_made run m.machine (new run) wanted s x ≡ Post.Ready wanted) (λ s h x. rw (h.0, h.1, same_side_itself (new run)) refl) (start_up run.plan) (starts_machine run.plan m of_plan))))))))
      w x y reach
