-- A cleanup and a reprotect whose stages are all done make of frames and posts what they mean.
use Rattle.std.specs.Prelude.{◌≡◌, ℕ, ◌⊎◌, Bool, true, false, ◌&&◌, None, cond}
use Rattle.std.proofs.Common.{refl, sym, ap, ◌∙◌, inl, inr}
use Rattle.dr_meaning.specs.Types.{Side, Sides, Op, Link, Placed, Post, PlanMachine, Plan}
use Rattle.dr_meaning.specs.declared.stage.StageKind.{StageKind}
use Rattle.dr_meaning.specs.declared.stage.Stage.{Stage}
use Rattle.dr_outside.specs.Pairs.{Frame}
use Rattle.dr_outside.specs.BySide.{at, put}
use Rattle.dr_base.specs.Sides.{same_side}
use Rattle.dr_base.specs.Lists.{has}
use Rattle.dr_meaning.specs.Stages.{stages, array_stage, wind_down}
use Rattle.dr_meaning.specs.Runs.{Run, op, new, stages_of}
use Rattle.dr_meaning.specs.Outcomes.{made_frame, frozen_frame}
use Rattle.dr_meaning.specs.Reach.{side_of_wave, ReachFrame, ReachPost}
use Rattle.dr_meaning.specs.Meaning.{MeansFrame}
use Rattle.dr_meaning.proofs.Lists.{Each, each-append, each-map, some_of-left, some_of-right, some_of-map}
use Rattle.dr_model.proofs.StageLaws.{IsWave, wind_down-kind, IsMachineOf, Waves, winds_down_machine}
use Rattle.dr_model.proofs.WalkedLaws.{IsWalked, frame_keeps, frame_sets, post_made, post_keeps, post_sets}
use Rattle.dr_model.proofs.OutcomeLaws.{put_twice}
use Rattle.dr_model.proofs.WholeTest.{other_side, same_side_itself, not_worked}
use Rattle.dr_model.proofs.WholeMigrate.{at-put, side_of_other}

clear_frame : (run : Run) (s : Stage) → s.kind ≡ StageKind.Clear → (x : Frame) → made_frame run s.kind x ≡ x
clear_frame run s e x = rw e refl

-- what holds of Clear waves and of the stages after them
each-cleanup : (P : Stage → Type 0) (plan : Plan) → ((s : Stage) → s.kind ≡ StageKind.Clear → P s) → P (array_stage StageKind.TestStop) → Each P (stages plan Op.Cleanup false)
each-cleanup P plan clears stop = each-append P (wind_down StageKind.Clear plan) _ (each-map (IsWave StageKind.Clear) P clears _ (wind_down-kind StageKind.Clear plan)) (stop, tt)

each-reprotect : (P : Stage → Type 0) (plan : Plan) → ((s : Stage) → s.kind ≡ StageKind.Clear → P s) → P (array_stage StageKind.Prepare) → P (array_stage StageKind.Reverse) → P (array_stage StageKind.FinalSync) → Each P (stages plan Op.Reprotect false)
each-reprotect P plan clears prepare reverse final = each-append P (wind_down StageKind.Clear plan) _ (each-map (IsWave StageKind.Clear) P clears _ (wind_down-kind StageKind.Clear plan)) (prepare, (reverse, (final, tt)))

-- Cleanup

abbrev cleared : Frame → Frame
cleared x = record x { snapshot = None }

pub cleanup_frame : (run : Run) → op run ≡ Op.Cleanup → IsWalked run → (x y : Frame) → ReachFrame run x y → MeansFrame run x y
cleanup_frame run e w x y reach = rw e (ap (λ s. record y { snapshot = s }) set ∙ kept)
  where
    kept : cleared y ≡ cleared x
    kept = frame_keeps run cleared
        (rw (ap (λ o. stages run.plan o run.start.forced) e) (each-cleanup (λ s. (x : Frame) → cleared (made_frame run s.kind x) ≡ cleared x) run.plan (λ s k x. ap cleared (clear_frame run s k x)) (λ x. refl))) w x y reach

    set : y.snapshot ≡ None
    set = frame_sets run (λ x. x.snapshot) None
        (rw (ap (λ o. stages run.plan o run.start.forced) e) (each-cleanup (λ s. (x : Frame) → ((made_frame run s.kind x).snapshot ≡ x.snapshot) ⊎ ((made_frame run s.kind x).snapshot ≡ None)) run.plan (λ s k x. inl (ap (λ f. f.snapshot) (clear_frame run s k x))) (λ x. inr refl)))
        (rw (ap (λ o. stages run.plan o run.start.forced) e) (some_of-right (λ s. (x : Frame) → (made_frame run s.kind x).snapshot ≡ None) (wind_down StageKind.Clear run.plan) _ (inl (λ x. refl)))) w x y reach

-- a wave that doesn't work this side
post_elsewhere : (run : Run) (machine : ℕ) (side : Side) (wanted : Placed) (s : Stage) → same_side side (side_of_wave (op run) run.old s.kind) ≡ false → (x : Post) → post_made run machine side wanted s x ≡ x
post_elsewhere run machine side wanted s e x = not_worked (has s.machines machine) _ _ _ e

-- a Clear wave that works this side makes a Placeholder, or doesn't work the machine
clear_here : (run : Run) (machine : ℕ) (side : Side) (wanted : Placed) (s : Stage) → s.kind ≡ StageKind.Clear → side_of_wave (op run) run.old StageKind.Clear ≡ side → (x : Post) → (post_made run machine side wanted s x ≡ x) ⊎ (post_made run machine side wanted s x ≡ Post.Placeholder)
clear_here run machine side wanted s k e x = rw (k, e, same_side_itself side) (go (has s.machines machine))
  where
    go : (b : Bool) → (cond (b && true) Post.Placeholder x ≡ x) ⊎ (cond (b && true) Post.Placeholder x ≡ Post.Placeholder)
    go true = inr refl
    go false = inl refl

clear_sets : (run : Run) (machine : ℕ) (side : Side) (wanted : Placed) (s : Stage) → Waves StageKind.Clear machine s → side_of_wave (op run) run.old StageKind.Clear ≡ side → (x : Post) → post_made run machine side wanted s x ≡ Post.Placeholder
clear_sets run machine side wanted s h e x = rw (h.0, e, h.1, same_side_itself side) refl

pub cleanup_old_post : (run : Run) (machine : ℕ) (wanted : Placed) → op run ≡ Op.Cleanup → IsWalked run → (x y : Post) → ReachPost run machine run.old wanted x y → y ≡ x
cleanup_old_post run machine wanted e w x y reach =
    post_keeps run machine run.old wanted (λ x. x)
    (rw (ap (λ o. stages run.plan o run.start.forced) e) (each-cleanup (λ s. (x : Post) → post_made run machine run.old wanted s x ≡ x) run.plan (λ s k x. post_elsewhere run machine run.old wanted s (rw (k, e) (other_side run.old)) x) (λ x. refl))) w x y reach

pub cleanup_new_post : (run : Run) (m : PlanMachine) (wanted : Placed) → IsMachineOf run.plan m → op run ≡ Op.Cleanup → IsWalked run → (x y : Post) → ReachPost run m.machine (new run) wanted x y → y ≡ Post.Placeholder
cleanup_new_post run m wanted of_plan e w x y reach =
    post_sets run m.machine (new run) wanted (λ x. x) Post.Placeholder
    (rw (ap (λ o. stages run.plan o run.start.forced) e) (each-cleanup (λ s. (x : Post) → (post_made run m.machine (new run) wanted s x ≡ x) ⊎ (post_made run m.machine (new run) wanted s x ≡ Post.Placeholder)) run.plan (λ s k x. clear_here run m.machine (new run) wanted s k (rw e refl) x) (λ x. inl refl)))
    (rw (ap (λ o. stages run.plan o run.start.forced) e) (some_of-left (λ s. (x : Post) → post_made run m.machine (new run) wanted s x ≡ Post.Placeholder) (wind_down StageKind.Clear run.plan) _ (some_of-map (Waves StageKind.Clear m.machine) (λ s. (x : Post) → post_made run m.machine (new run) wanted s x ≡ Post.Placeholder) (λ s h x. clear_sets run m.machine (new run) wanted s h (rw e refl) x) (wind_down StageKind.Clear run.plan) (winds_down_machine StageKind.Clear run.plan m of_plan))))
    w x y reach

-- Reprotect

abbrev turned_back : Run → Frame → Frame
turned_back run x = record (frozen_frame run x) { link = Link.Live; source = new run }

frozen-same : (side : Side) (w : Sides Bool) → at side w ≡ false → put side false w ≡ w
frozen-same Side.A w e = λ i. record { a = sym e i; b = w.b }
frozen-same Side.B w e = λ i. record { a = w.a; b = sym e i }

pub reprotect_frame : (run : Run) → op run ≡ Op.Reprotect → IsWalked run → (x y : Frame) → ReachFrame run x y → MeansFrame run x y
reprotect_frame run e w x y reach = rw e (same ∙ kept)
  where
    list : stages_of run ≡ stages run.plan Op.Reprotect false
    list = ap (λ o. stages run.plan o run.start.forced) e

    kept : turned_back run y ≡ turned_back run x
    kept = frame_keeps run (turned_back run)
        (rw list (each-reprotect (λ s. (x : Frame) → turned_back run (made_frame run s.kind x) ≡ turned_back run x) run.plan (λ s k x. ap (turned_back run) (clear_frame run s k x))
        (λ x. ap (λ v. record x { link = Link.Live; source = new run; writable = v }) (put_twice run.old false x.writable)) (λ x. refl) (λ x. refl))) w x y reach

    is_live : y.link ≡ Link.Live
    is_live = frame_sets run (λ x. x.link) Link.Live
        (rw list (each-reprotect (λ s. (x : Frame) → ((made_frame run s.kind x).link ≡ x.link) ⊎ ((made_frame run s.kind x).link ≡ Link.Live)) run.plan (λ s k x. inl (ap (λ f. f.link) (clear_frame run s k x))) (λ x. inl refl) (λ x. inr refl) (λ x. inl refl)))
        (rw list (some_of-right (λ s. (x : Frame) → (made_frame run s.kind x).link ≡ Link.Live) (wind_down StageKind.Clear run.plan) _ (inr (inl (λ x. refl))))) w x y reach

    source : y.source ≡ new run
    source = frame_sets run (λ x. x.source) (new run)
        (rw list (each-reprotect (λ s. (x : Frame) → ((made_frame run s.kind x).source ≡ x.source) ⊎ ((made_frame run s.kind x).source ≡ new run)) run.plan (λ s k x. inl (ap (λ f. f.source) (clear_frame run s k x))) (λ x. inl refl) (λ x. inr refl) (λ x. inl refl)))
        (rw list (some_of-right (λ s. (x : Frame) → (made_frame run s.kind x).source ≡ new run) (wind_down StageKind.Clear run.plan) _ (inr (inl (λ x. refl))))) w x y reach

    frozen : at run.old y.writable ≡ false
    frozen = frame_sets run (λ x. at run.old x.writable) false
        (rw list (each-reprotect (λ s. (x : Frame) → (at run.old (made_frame run s.kind x).writable ≡ at run.old x.writable) ⊎ (at run.old (made_frame run s.kind x).writable ≡ false)) run.plan (λ s k x. inl (ap (λ f. at run.old f.writable) (clear_frame run s k x))) (λ x. inr (at-put run.old false x.writable)) (λ x. inl refl) (λ x. inl refl)))
        (rw list (some_of-right (λ s. (x : Frame) → at run.old (made_frame run s.kind x).writable ≡ false) (wind_down StageKind.Clear run.plan) _ (inl (λ x. at-put run.old false x.writable)))) w x y reach

    same : y ≡ turned_back run y
    same = λ i. record { source = source i; link = is_live i; writable = sym (frozen-same run.old y.writable frozen) i; snapshot = y.snapshot }

pub reprotect_new_post : (run : Run) (machine : ℕ) (wanted : Placed) → op run ≡ Op.Reprotect → IsWalked run → (x y : Post) → ReachPost run machine (new run) wanted x y → y ≡ x
reprotect_new_post run machine wanted e w x y reach =
    post_keeps run machine (new run) wanted (λ x. x)
    (rw (ap (λ o. stages run.plan o run.start.forced) e) (each-reprotect (λ s. (x : Post) → post_made run machine (new run) wanted s x ≡ x) run.plan (λ s k x. post_elsewhere run machine (new run) wanted s (rw (k, e) (side_of_other run.old)) x) (λ x. refl) (λ x. refl) (λ x. refl))) w x y reach

pub reprotect_old_post : (run : Run) (m : PlanMachine) (wanted : Placed) → IsMachineOf run.plan m → op run ≡ Op.Reprotect → IsWalked run → (x y : Post) → ReachPost run m.machine run.old wanted x y → y ≡ Post.Placeholder
reprotect_old_post run m wanted of_plan e w x y reach =
    post_sets run m.machine run.old wanted (λ x. x) Post.Placeholder
    (rw (ap (λ o. stages run.plan o run.start.forced) e) (each-reprotect (λ s. (x : Post) → (post_made run m.machine run.old wanted s x ≡ x) ⊎ (post_made run m.machine run.old wanted s x ≡ Post.Placeholder)) run.plan (λ s k x. clear_here run m.machine run.old wanted s k (rw e refl) x) (λ x. inl refl) (λ x. inl refl) (λ x. inl refl)))
    (rw (ap (λ o. stages run.plan o run.start.forced) e) (some_of-left (λ s. (x : Post) → post_made run m.machine run.old wanted s x ≡ Post.Placeholder) (wind_down StageKind.Clear run.plan) _ (some_of-map (Waves StageKind.Clear m.machine) (λ s. (x : Post) → post_made run m.machine run.old wanted s x ≡ Post.Placeholder) (λ s h x. clear_sets run m.machine run.old wanted s h (rw e refl) x) (wind_down StageKind.Clear run.plan) (winds_down_machine StageKind.Clear run.plan m of_plan))))
    w x y reach
