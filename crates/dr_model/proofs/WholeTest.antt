-- A test whose stages are all done makes of frames and posts what a test means.
use Rattle.std.specs.Prelude.{◌≡◌, ℕ, ◌⊎◌, Bool, true, false, Some, cond, ◌&&◌}
use Rattle.std.proofs.Common.{refl, ap, ◌∙◌, inl, inr}
use Rattle.dr_meaning.specs.Types.{Side, Op, Placed, Post, PlanMachine, Plan}
use Rattle.dr_meaning.specs.declared.stage.StageKind.{StageKind}
use Rattle.dr_meaning.specs.declared.stage.Stage.{Stage}
use Rattle.dr_outside.specs.Pairs.{Frame}
use Rattle.dr_base.specs.Sides.{other, same_side}
use Rattle.dr_base.specs.Lists.{has}
use Rattle.dr_meaning.specs.Stages.{stages, start_up}
use Rattle.dr_meaning.specs.Runs.{Run, number, op, new, stages_of}
use Rattle.dr_meaning.specs.Outcomes.{made_frame}
use Rattle.dr_meaning.specs.Reach.{ReachFrame, ReachPost}
use Rattle.dr_meaning.specs.Meaning.{MeansFrame}
use Rattle.dr_meaning.proofs.Lists.{Each, some_of-map}
use Rattle.dr_model.proofs.StageLaws.{IsCallout, each-start_up, IsMachineOf, Starts, starts_machine}
use Rattle.dr_model.proofs.WalkedLaws.{IsWalked, frame_keeps, frame_sets, post_made, post_keeps, post_sets}

-- Frames

pub callout_frame : (run : Run) (s : Stage) → IsCallout s → (x : Frame) → made_frame run s.kind x ≡ x
callout_frame run s (inl e, none) x = rw e refl
callout_frame run s (inr e, none) x = rw e refl

pub start_frame : (run : Run) (s : Stage) → s.kind ≡ StageKind.Start → (x : Frame) → made_frame run s.kind x ≡ x
start_frame run s e x = rw e refl

module _ {A : Type 0} (run : Run) (f : Frame → A) where
  -- a start-up leaves every frame
  pub start_up_frames : (plan : Plan) → Each (λ s. (x : Frame) → f (made_frame run s.kind x) ≡ f x) (start_up plan)
  start_up_frames plan = each-start_up (λ s. (x : Frame) → f (made_frame run s.kind x) ≡ f x) plan (λ s c x. ap f (callout_frame run s c x)) (λ s e x. ap f (start_frame run s e x))

  pub start_up_frames_or : (a : A) (plan : Plan) → Each (λ s. (x : Frame) → (f (made_frame run s.kind x) ≡ f x) ⊎ (f (made_frame run s.kind x) ≡ a)) (start_up plan)
  start_up_frames_or a plan = each-start_up (λ s. (x : Frame) → (f (made_frame run s.kind x) ≡ f x) ⊎ (f (made_frame run s.kind x) ≡ a)) plan (λ s c x. inl (ap f (callout_frame run s c x))) (λ s e x. inl (ap f (start_frame run s e x)))

abbrev with_snapshot : Run → Frame → Frame
with_snapshot run x = record x { snapshot = Some (number run) }

pub test_stages : (run : Run) → op run ≡ Op.Testing → stages_of run ≡ stages run.plan Op.Testing run.start.forced
test_stages run e = ap (λ o. stages run.plan o run.start.forced) e

pub test_frame : (run : Run) → op run ≡ Op.Testing → IsWalked run → (x y : Frame) → ReachFrame run x y → MeansFrame run x y
test_frame run e w x y reach = rw e (ap (λ s. record y { snapshot = s }) set ∙ kept)
  where
    kept : with_snapshot run y ≡ with_snapshot run x
    kept = frame_keeps run (with_snapshot run)
        (rw (test_stages run e) (λ x. refl, (λ x. refl, start_up_frames run (with_snapshot run) run.plan))) w x y reach

    set : y.snapshot ≡ Some (number run)
    set = frame_sets run (λ x. x.snapshot) (Some (number run))
        (rw (test_stages run e) (λ x. inl refl, (λ x. inr refl, start_up_frames_or run (λ x. x.snapshot) (Some (number run)) run.plan)))
        (rw (test_stages run e) (inr (inl (λ x. refl)))) w x y reach

-- Posts

-- the other side is another
pub other_side : (side : Side) → same_side side (other side) ≡ false
other_side Side.A = refl
other_side Side.B = refl

pub same_side_itself : (side : Side) → same_side side side ≡ true
same_side_itself Side.A = refl
same_side_itself Side.B = refl

-- a stage that doesn't work the machine leaves it
pub not_worked : {X : Type 0} (b c : Bool) (u v : X) → c ≡ false → cond (b && c) u v ≡ v
not_worked true c u v e = rw e refl
not_worked false c u v e = refl

pub callout_post : (run : Run) (machine : ℕ) (side : Side) (wanted : Placed) (s : Stage) → IsCallout s → (x : Post) → post_made run machine side wanted s x ≡ x
callout_post run machine side wanted s c x = rw c.1 refl

pub start_old_post : (run : Run) (machine : ℕ) (wanted : Placed) (s : Stage) → s.kind ≡ StageKind.Start → (x : Post) → post_made run machine run.old wanted s x ≡ x
start_old_post run machine wanted s e x = not_worked (has s.machines machine) _ _ _ (rw e (other_side run.old))

-- at the new side a start makes the post Ready as wanted, or doesn't work the machine
pub start_new_post : (run : Run) (machine : ℕ) (wanted : Placed) (s : Stage) → s.kind ≡ StageKind.Start → (x : Post) → (post_made run machine (new run) wanted s x ≡ x) ⊎ (post_made run machine (new run) wanted s x ≡ Post.Ready wanted)
start_new_post run machine wanted s e x = rw (e, same_side_itself (new run)) (go (has s.machines machine))
  where
    go : (b : Bool) → (cond (b && true) (Post.Ready wanted) x ≡ x) ⊎ (cond (b && true) (Post.Ready wanted) x ≡ Post.Ready wanted)
    go true = inr refl
    go false = inl refl

-- a test leaves the post at the protected side
pub test_old_post : (run : Run) (machine : ℕ) (wanted : Placed) → op run ≡ Op.Testing → IsWalked run → (x y : Post) → ReachPost run machine run.old wanted x y → y ≡ x
test_old_post run machine wanted e w x y reach =
    post_keeps run machine run.old wanted (λ x. x)
    (rw (test_stages run e) (λ x. refl, (λ x. refl, each-start_up (λ s. (x : Post) → post_made run machine run.old wanted s x ≡ x) run.plan (callout_post run machine run.old wanted) (start_old_post run machine wanted)))) w x y reach

-- and makes the post of each of its machines at the recovery side Ready as wanted
pub test_new_post : (run : Run) (m : PlanMachine) (wanted : Placed) → IsMachineOf run.plan m → op run ≡ Op.Testing → IsWalked run → (x y : Post) → ReachPost run m.machine (new run) wanted x y → y ≡ Post.Ready wanted
test_new_post run m wanted of_plan e w x y reach =
    post_sets run m.machine (new run) wanted (λ x. x) (Post.Ready wanted)
    (rw (test_stages run e) (λ x. inl refl, (λ x. inl refl, each-start_up (λ s. (x : Post) → (post_made run m.machine (new run) wanted s x ≡ x) ⊎ (post_made run m.machine (new run) wanted s x ≡ Post.Ready wanted)) run.plan (λ s c x. inl (callout_post run m.machine (new run) wanted s c x)) (start_new_post run m.machine wanted))))
    (rw (test_stages run e) (inr (inr (some_of-map (Starts m.machine) (λ s. (x : Post) → post_made run m.machine (new run) wanted s x ≡ Post.Ready wanted) (λ s h x. rw (h.0, h.1, same_side_itself (new run)) refl) (start_up run.plan) (starts_machine run.plan m of_plan)))))
    w x y reach
