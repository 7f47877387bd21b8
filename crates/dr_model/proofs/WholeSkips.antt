-- A failover whose stages are all done, whatever was skipped or set aside, makes of frames and posts what it means.
use Rattle.std.specs.Prelude.{◌≡◌, ℕ, ◌⊎◌, Bool, true, false, ◌&&◌, ◌||◌, List, [], ◌∷◌, None, IsTrue}
use Rattle.std.proofs.Common.{refl, sym, ap, ◌∙◌, inl, inr, subst}
use Rattle.dr_meaning.specs.Types.{Side, Sides, Op, Link, Placed, Post, PlanMachine}
use Rattle.dr_meaning.specs.declared.stage.StageKind.{StageKind}
use Rattle.dr_meaning.specs.declared.stage.Stage.{Stage}
use Rattle.dr_outside.specs.Pairs.{Frame}
use Rattle.dr_base.specs.Sides.{other}
use Rattle.dr_outside.specs.BySide.{at, put}
use Rattle.dr_base.specs.Lists.{has}
use Rattle.dr_meaning.specs.Stages.{stages, array_stage, recovery, wind_down, start_up, stage_at}
use Rattle.dr_meaning.specs.Visits.{Visit, visits, all, is_excused}
use Rattle.dr_meaning.specs.Runs.{Run, op, new, stages_of}
use Rattle.dr_meaning.specs.Outcomes.{made_frame, FrameOutcome, stopped, PostOutcome, split_frame}
use Rattle.dr_meaning.specs.Reach.{Through, is_complete, FrameStep, ReachFrame, works, PostStep, ReachPost, stage_of}
use Rattle.dr_meaning.specs.Meaning.{same_kind, is_of_kind, is_wave_of, is_stop_skipped, is_prepare_skipped, last_visit_of, FrameMeaning, MeansFrame, OldPostMeaning, NewPostMeaning}
use Rattle.dr_meaning.specs.Next.{least_undone}
use Rattle.dr_meaning.specs.InOrder.{is_start_up}
use Rattle.dr_meaning.specs.StartUp.{is_started}
use Rattle.dr_meaning.proofs.Lists.{Each, each-find, find-passes, all_each, Some_of, some_of-left, some_of-right, some_of-map, some_of-both}
use Rattle.dr_model.proofs.StageLaws.{IsCallout, stage_from-each, done_number, each-recovery, each-start_up, each-start_up_op, IsMachineOf, Waves, Starts, starts_machine, winds_down_machine}
use Rattle.dr_model.proofs.ThroughLaws.{Holds, Makes, through_from, visited, some_of-find, find-some_of}
use Rattle.dr_model.proofs.WholeTest.{callout_frame, start_frame, other_side, same_side_itself}
use Rattle.dr_model.proofs.WholeMigrate.{stop_frame, at-put, at-put_other, at_other-put, moved, turned-frozen, turned-opened, turned-same, stopped-stopped, is_running-stopped, stopped-same, side_of_other}
use Rattle.dr_model.proofs.PhaseLaws.{incomplete_step, reach_keeps}
use Rattle.dr_model.proofs.PostPhase.{StageHolds, reach_post-holds, post_step-holds, callout_works, elsewhere}
use Rattle.dr_model.proofs.WholeFailover.{StartsOrLeaves, left_or_ready}
use Rattle.dr_model.proofs.OutcomeLaws.{put_twice}
use Rattle.dr_model.proofs.NumberLaws.{kind-same}
use Rattle.dr_model.proofs.ChainLaws.{and_left, and_right}
use Rattle.dr_model.proofs.ExcuseLaws.{ExcusesRightly}

-- gone through to the end, with what was skipped or set aside
pub record IsThrough (run : Run) : Type 0 where
  pub all_done : least_undone run ≡ None
  pub done : Each (λ v. v.done ≡ true) (visits run.log)
  pub rightly : ExcusesRightly run

-- a done stage with P has a visit, which has P
pub visit_with : (run : Run) (P : Stage → Type 0) → IsThrough run → Some_of P (stages_of run) → Some_of (λ v. P (stage_of run v)) (visits run.log)
visit_with run P t some =
    let (k, above, p, done) = done_number P run.log 1 (stages_of run) t.all_done some in
    some_of-map (λ v. v.stage ≡ k) (λ v. P (stage_of run v)) (λ v e. rw e p) (visits run.log) (visited k (visits run.log) done)

module _ (run : Run) where
  -- a frame step that sets f, where the stage does and the visit is complete
  pub frame_holds : {A : Type 0} (f : Frame → A) (a : A) → Each (λ s. (x : Frame) → (f (made_frame run s.kind x) ≡ f x) ⊎ (f (made_frame run s.kind x) ≡ a)) (stages_of run) → Each (Holds (FrameStep run) (λ y. f y ≡ a)) (visits run.log)
  frame_holds f a h =
      all_each (Holds (FrameStep run) (λ y. f y ≡ a)) (λ v x y step. go v x y (incomplete_step run v x y step)) (visits run.log)
    where
      made : (v : Visit) (x y : Frame) → y ≡ made_frame run (stage_of run v).kind x → (f (made_frame run (stage_of run v).kind x) ≡ f x) ⊎ (f (made_frame run (stage_of run v).kind x) ≡ a) → f x ≡ a → f y ≡ a
      made v x y e (inl keeps) was = ap f e ∙ keeps ∙ was
      made v x y e (inr sets) was = ap f e ∙ sets

      go : (v : Visit) (x y : Frame) → FrameOutcome run (stage_of run v).kind x y → f x ≡ a → f y ≡ a
      go v x y (inl e) was = made v x y e (stage_from-each (λ s. (x : Frame) → (f (made_frame run s.kind x) ≡ f x) ⊎ (f (made_frame run s.kind x) ≡ a)) 1 (stages_of run) v.stage (λ x. inl refl) h x) was
      go v x y (inr same) was = ap f same ∙ was

  pub complete_makes : {A : Type 0} (f : Frame → A) (a : A) (v : Visit) → is_complete all v ≡ true → ((x : Frame) → f (made_frame run (stage_of run v).kind x) ≡ a) → Makes (FrameStep run) (λ y. f y ≡ a) v
  complete_makes f a v whole sets x y step = let made : y ≡ made_frame run (stage_of run v).kind x = rw whole at step in ap f made ∙ sets x

  -- f is kept, or set
  frame_either : {A : Type 0} (f : Frame → A) (a : A) → Each (λ s. (x : Frame) → (f (made_frame run s.kind x) ≡ f x) ⊎ (f (made_frame run s.kind x) ≡ a)) (stages_of run) → (vs : List Visit) (x y : Frame) → Through (FrameStep run) vs x y → (f y ≡ f x) ⊎ (f y ≡ a)
  frame_either f a h [] x y e = inl (ap f e)
  frame_either f a h (v ∷ vs) x y (mid, reach, step) = go (frame_either f a h vs x mid reach) (incomplete_step run v mid y step)
    where
      made : y ≡ made_frame run (stage_of run v).kind mid → (f (made_frame run (stage_of run v).kind mid) ≡ f mid) ⊎ (f (made_frame run (stage_of run v).kind mid) ≡ a) → (f mid ≡ f x) ⊎ (f mid ≡ a) → (f y ≡ f x) ⊎ (f y ≡ a)
      made e (inl keeps) (inl was) = inl (ap f e ∙ keeps ∙ was)
      made e (inl keeps) (inr was) = inr (ap f e ∙ keeps ∙ was)
      made e (inr sets) was = inr (ap f e ∙ sets)

      go : (f mid ≡ f x) ⊎ (f mid ≡ a) → FrameOutcome run (stage_of run v).kind mid y → (f y ≡ f x) ⊎ (f y ≡ a)
      go was (inl e) = made e (stage_from-each (λ s. (x : Frame) → (f (made_frame run s.kind x) ≡ f x) ⊎ (f (made_frame run s.kind x) ≡ a)) 1 (stages_of run) v.stage (λ x. inl refl) h mid) was
      go (inl was) (inr same) = inl (ap f same ∙ was)
      go (inr was) (inr same) = inr (ap f same ∙ was)

  -- a Split is complete
  split_complete : (v : Visit) → (v.done ≡ true) × (((stage_of run v).kind ≡ StageKind.Split → v.excused ≡ []) × ((stage_of run v).kind ≡ StageKind.Split)) → is_complete all v ≡ true
  split_complete v h = rw (h.0, h.1.0 h.1.1) refl

  -- so what it sets is set
  split_sets : {A : Type 0} (f : Frame → A) (a : A) → IsThrough run → Some_of (λ s. s.kind ≡ StageKind.Split) (stages_of run) → Each (λ s. (x : Frame) → (f (made_frame run s.kind x) ≡ f x) ⊎ (f (made_frame run s.kind x) ≡ a)) (stages_of run) → ((x : Frame) → f (made_frame run StageKind.Split x) ≡ a) → (x y : Frame) → ReachFrame run x y → f y ≡ a
  split_sets f a t some each sets x y reach =
      through_from (FrameStep run) (λ y. f y ≡ a) (visits run.log)
      (some_of-map (λ v. (v.done ≡ true) × (((stage_of run v).kind ≡ StageKind.Split → v.excused ≡ []) × ((stage_of run v).kind ≡ StageKind.Split))) (Makes (FrameStep run) (λ y. f y ≡ a))
      (λ v h. complete_makes f a v (split_complete v h) (rw h.1.1 sets)) (visits run.log)
      (some_of-both (λ v. v.done ≡ true) (λ v. ((stage_of run v).kind ≡ StageKind.Split → v.excused ≡ []) × ((stage_of run v).kind ≡ StageKind.Split)) (visits run.log) t.done
      (some_of-both (λ v. (stage_of run v).kind ≡ StageKind.Split → v.excused ≡ []) (λ v. (stage_of run v).kind ≡ StageKind.Split) (visits run.log) t.rightly.none
      (visit_with run (λ s. s.kind ≡ StageKind.Split) t some))))
      (frame_holds f a each) x y reach

or_right : (a b : Bool) → b ≡ true → a || b ≡ true
or_right true b e = refl
or_right false b e = e

-- Frames

opened_same : (old : Side) (w v : Sides Bool) → at old w ≡ at old v → at (other old) w ≡ true → w ≡ put (other old) true v
opened_same Side.A w v e f = λ i. record { a = e i; b = f i }
opened_same Side.B w v e f = λ i. record { a = f i; b = e i }

module _ (run : Run) (t : IsThrough run) (list : stages_of run ≡ recovery run.plan) (x y : Frame) (reach : ReachFrame run x y) where
  sets_in : {A : Type 0} (f : Frame → A) (a : A) → ((x : Frame) → (f (made_frame run StageKind.Prepare x) ≡ f x) ⊎ (f (made_frame run StageKind.Prepare x) ≡ a)) → ((x : Frame) → (f (made_frame run StageKind.Split x) ≡ f x) ⊎ (f (made_frame run StageKind.Split x) ≡ a)) → Each (λ s. (x : Frame) → (f (made_frame run s.kind x) ≡ f x) ⊎ (f (made_frame run s.kind x) ≡ a)) (stages_of run)
  sets_in f a prepare split =
      rw list (each-recovery (λ s. (x : Frame) → (f (made_frame run s.kind x) ≡ f x) ⊎ (f (made_frame run s.kind x) ≡ a)) run.plan
      (λ s c x. inl (ap f (callout_frame run s c x))) (λ s k x. inl (ap f (start_frame run s k x))) (λ s k x. inl (ap f (stop_frame run s k x)))
      (λ x. inl refl) prepare (λ x. inl refl) split)

  moved_kept : moved run y ≡ moved run x
  moved_kept =
      reach_keeps run (moved run)
      (rw list (each-recovery (λ s. (x : Frame) → moved run (made_frame run s.kind x) ≡ moved run x) run.plan
      (λ s c x. ap (moved run) (callout_frame run s c x)) (λ s k x. ap (moved run) (start_frame run s k x)) (λ s k x. ap (moved run) (stop_frame run s k x))
      (λ x. refl) (λ x. ap (λ v. record x { link = Link.Split; writable = v }) (turned-frozen run.old x.writable)) (λ x. refl) (λ x. ap (λ v. record x { link = Link.Split; writable = v }) (turned-opened run.old x.writable))))
      x y reach

  has_split : Some_of (λ s. s.kind ≡ StageKind.Split) (stages_of run)
  has_split = rw list (inr (some_of-right (λ s. s.kind ≡ StageKind.Split) (wind_down StageKind.Stop run.plan) _ (inr (inr (inl refl)))))

  pub has_prepare : Some_of (λ s. is_of_kind StageKind.Prepare s ≡ true) (stages_of run)
  has_prepare = rw list (inr (some_of-right (λ s. is_of_kind StageKind.Prepare s ≡ true) (wind_down StageKind.Stop run.plan) _ (inl refl)))

  is_split : y.link ≡ Link.Split
  is_split = split_sets run (λ x. x.link) Link.Split t has_split (sets_in (λ x. x.link) Link.Split (λ x. inl refl) (λ x. inr refl)) (λ x. refl) x y reach

  opened : at (new run) y.writable ≡ true
  opened =
      split_sets run (λ x. at (new run) x.writable) true t has_split
      (sets_in (λ x. at (new run) x.writable) true (λ x. inl (at_other-put run.old false x.writable)) (λ x. inr (at-put (new run) true x.writable))) (λ x. at-put (new run) true x.writable) x y reach

  pub old_sets : Each (λ s. (x : Frame) → (at run.old (made_frame run s.kind x).writable ≡ at run.old x.writable) ⊎ (at run.old (made_frame run s.kind x).writable ≡ false)) (stages_of run)
  old_sets = sets_in (λ x. at run.old x.writable) false (λ x. inr (at-put run.old false x.writable)) (λ x. inl (at-put_other run.old true x.writable))

  -- where Prepare isn't skipped, the old side is frozen
  frozen_if : is_excused all (last_visit_of run (is_of_kind StageKind.Prepare)) ≡ false → at run.old y.writable ≡ false
  frozen_if none =
      let test = λ (v : Visit). is_of_kind StageKind.Prepare (stage_at (stages_of run) v.stage) in
      let (v, found) = find-some_of test (visits run.log) (visit_with run (λ s. is_of_kind StageKind.Prepare s ≡ true) t has_prepare) in
      let unexcused : has v.excused all ≡ false = rw found at none in
      let done : v.done ≡ true = each-find (λ u. u.done ≡ true) test (visits run.log) v t.done found in
      let kind : (stage_of run v).kind ≡ StageKind.Prepare = kind-same _ StageKind.Prepare (find-passes test (visits run.log) v found) in
      through_from (FrameStep run) (λ y. at run.old y.writable ≡ false) (visits run.log)
      (some_of-find (Makes (FrameStep run) (λ y. at run.old y.writable ≡ false)) test (visits run.log) v found
      (complete_makes run (λ x. at run.old x.writable) false v (rw (done, unexcused) refl) (rw kind (λ x. at-put run.old false x.writable))))
      (frame_holds run (λ x. at run.old x.writable) false old_sets) x y reach

  pub moved_if : at run.old y.writable ≡ false → y ≡ moved run x
  moved_if frozen = (λ i. record { source = y.source; link = is_split i; writable = sym (turned-same run.old y.writable frozen opened) i; snapshot = y.snapshot }) ∙ moved_kept

  pub split_if : at run.old y.writable ≡ at run.old x.writable → y ≡ split_frame run x
  split_if same = λ i. record {
    source = ap (λ f. f.source) moved_kept i;
    link = is_split i;
    writable = opened_same run.old y.writable x.writable same opened i;
    snapshot = ap (λ f. f.snapshot) moved_kept i;
  }

  pub recovery_frame_with_skips : (y ≡ moved run x) ⊎ ((is_excused all (last_visit_of run (is_of_kind StageKind.Prepare)) ≡ true) × (y ≡ split_frame run x))
  recovery_frame_with_skips = go (is_excused all (last_visit_of run (is_of_kind StageKind.Prepare))) refl (frame_either run (λ x. at run.old x.writable) false old_sets (visits run.log) x y reach)
    where
      go : (b : Bool) → is_excused all (last_visit_of run (is_of_kind StageKind.Prepare)) ≡ b → (at run.old y.writable ≡ at run.old x.writable) ⊎ (at run.old y.writable ≡ false) → (y ≡ moved run x) ⊎ ((is_excused all (last_visit_of run (is_of_kind StageKind.Prepare)) ≡ true) × (y ≡ split_frame run x))
      go false e either = inl (moved_if (frozen_if e))
      go true e (inl same) = inr (e, split_if same)
      go true e (inr frozen) = inl (moved_if frozen)

-- a forced failover splits alone
forced_frame : (run : Run) → IsThrough run → stages_of run ≡ array_stage StageKind.Split ∷ start_up run.plan → (x y : Frame) → ReachFrame run x y → y ≡ split_frame run x
forced_frame run t list x y reach = (λ i. record { source = y.source; link = is_split i; writable = (opened_same run.old y.writable y.writable refl opened) i; snapshot = y.snapshot }) ∙ kept
  where
    each : {A : Type 0} (f : Frame → A) (a : A) → ((x : Frame) → (f (made_frame run StageKind.Split x) ≡ f x) ⊎ (f (made_frame run StageKind.Split x) ≡ a)) → Each (λ s. (x : Frame) → (f (made_frame run s.kind x) ≡ f x) ⊎ (f (made_frame run s.kind x) ≡ a)) (stages_of run)
    each f a split = rw list (split, each-start_up (λ s. (x : Frame) → (f (made_frame run s.kind x) ≡ f x) ⊎ (f (made_frame run s.kind x) ≡ a)) run.plan (λ s c x. inl (ap f (callout_frame run s c x))) (λ s k x. inl (ap f (start_frame run s k x))))

    kept : split_frame run y ≡ split_frame run x
    kept =
        reach_keeps run (split_frame run)
        (rw list (λ x. ap (λ v. record x { link = Link.Split; writable = v }) (put_twice (new run) true x.writable), each-start_up (λ s. (x : Frame) → split_frame run (made_frame run s.kind x) ≡ split_frame run x) run.plan (λ s c x. ap (split_frame run) (callout_frame run s c x)) (λ s k x. ap (split_frame run) (start_frame run s k x))))
        x y reach

    is_split : y.link ≡ Link.Split
    is_split = split_sets run (λ x. x.link) Link.Split t (rw list (inl refl)) (each (λ x. x.link) Link.Split (λ x. inr refl)) (λ x. refl) x y reach

    opened : at (new run) y.writable ≡ true
    opened = split_sets run (λ x. at (new run) x.writable) true t (rw list (inl refl)) (each (λ x. at (new run) x.writable) true (λ x. inr (at-put (new run) true x.writable))) (λ x. at-put (new run) true x.writable) x y reach

-- by the operation, and whether it is forced
pub frame_means : (run : Run) (o : Op) (forced : Bool) → op run ≡ o → run.start.forced ≡ forced → (x y : Frame) → FrameMeaning o forced run x y → MeansFrame run x y
frame_means run o forced e f x y h = subst (λ (p : Op). FrameMeaning p run.start.forced run x y) (sym e) (subst (λ (b : Bool). FrameMeaning o b run x y) (sym f) h)

pub failover_frame : (run : Run) → op run ≡ Op.Failover → IsThrough run → (x y : Frame) → ReachFrame run x y → MeansFrame run x y
failover_frame run e t x y reach = go run.start.forced refl
  where
    list : (b : Bool) → run.start.forced ≡ b → stages_of run ≡ stages run.plan Op.Failover b
    list b f = ap (λ o. stages run.plan o run.start.forced) e ∙ ap (λ b. stages run.plan Op.Failover b) f

    means : (y ≡ moved run x) ⊎ ((is_excused all (last_visit_of run (is_of_kind StageKind.Prepare)) ≡ true) × (y ≡ split_frame run x)) → (y ≡ moved run x) ⊎ (IsTrue (is_prepare_skipped run) × (y ≡ split_frame run x))
    means (inl m) = inl m
    means (inr (skipped, s)) = inr (or_right run.start.forced _ skipped, s)

    go : (b : Bool) → run.start.forced ≡ b → MeansFrame run x y
    go true f = frame_means run Op.Failover true e f x y (forced_frame run t (list true f) x y reach)
    go false f = frame_means run Op.Failover false e f x y (means (recovery_frame_with_skips run t (list false f) x y reach))

-- Posts

and_no : (b c : Bool) → c ≡ false → b && c ≡ false
and_no true c e = e
and_no false c e = refl

and_false : (b : Bool) → b && false ≡ false
and_false true = refl
and_false false = refl

abbrev pub KeepsOrStops : Post → Post → Type 0
KeepsOrStops x z = (z ≡ x) ⊎ (z ≡ stopped x)

stop_outcome : (w : Placed) (x y z : Post) → KeepsOrStops x y → PostOutcome StageKind.Stop w y z → KeepsOrStops x z
stop_outcome w x y z (inl e) (inl made) = inr (made ∙ ap stopped e)
stop_outcome w x y z (inl e) (inr same) = inl (same ∙ e)
stop_outcome w x y z (inr e) (inl made) = inr (made ∙ ap stopped e ∙ stopped-stopped x)
stop_outcome w x y z (inr e) (inr same) = inr (same ∙ e)

pub off_outcome : (w : Placed) (y z : Post) → is_started y ≡ false → PostOutcome StageKind.Stop w y z → is_started z ≡ false
off_outcome w y z off (inl made) = ap is_started made ∙ is_running-stopped y
off_outcome w y z off (inr same) = ap is_started same ∙ off

module _ (run : Run) (m : ℕ) (w : Placed) (up : is_start_up (op run) ≡ true) where
  -- what a Stop keeps, all stages of a start-up keep at the old side
  pub stop_holds : (P : Post → Type 0) → ((y z : Post) → P y → PostOutcome StageKind.Stop w y z → P z) → Each (StageHolds run m run.old w P) (stages_of run)
  stop_holds P stops =
      each-start_up_op (StageHolds run m run.old w P) run.plan (op run) run.start.forced up
      (λ s c t x y p o. absurd (callout_works run m w run.old s c t))
      (λ s k t x y p o. absurd (elsewhere run m w run.old s (rw k (other_side run.old)) t))
      (λ s k t x y p o. stops x y p (rw k at o))
      (λ kind t x y p o. absurd cc)

  pub old_post_either : (x y : Post) → ReachPost run m run.old w x y → KeepsOrStops x y
  old_post_either x y reach = reach_post-holds run m run.old w (KeepsOrStops x) (stop_holds (KeepsOrStops x) (stop_outcome w x)) x y reach (inl refl)

  abbrev waves_stop : Visit → Bool
  waves_stop v = is_wave_of StageKind.Stop m (stage_at (stages_of run) v.stage)

  -- where its Stop isn't skipped, the machine is off
  pub old_post_off : IsThrough run → Some_of (λ s. is_wave_of StageKind.Stop m s ≡ true) (stages_of run) → is_excused m (last_visit_of run (is_wave_of StageKind.Stop m)) ≡ false → (x y : Post) → ReachPost run m run.old w x y → is_started y ≡ false
  old_post_off t some none x y reach =
      let (v, found) = find-some_of waves_stop (visits run.log) (visit_with run (λ s. is_wave_of StageKind.Stop m s ≡ true) t some) in
      let unexcused : has v.excused m ≡ false = rw found at none in
      let done : v.done ≡ true = each-find (λ u. u.done ≡ true) waves_stop (visits run.log) v t.done found in
      let wave : same_kind (stage_of run v).kind StageKind.Stop && has (stage_of run v).machines m ≡ true = find-passes waves_stop (visits run.log) v found in
      let kind : (stage_of run v).kind ≡ StageKind.Stop = kind-same _ StageKind.Stop (and_left _ _ wave) in
      let listed : has (stage_of run v).machines m ≡ true = and_right (same_kind (stage_of run v).kind StageKind.Stop) _ wave in
      through_from (PostStep run m run.old w) (λ z. is_started z ≡ false) (visits run.log)
      (some_of-find (Makes (PostStep run m run.old w) (λ z. is_started z ≡ false)) waves_stop (visits run.log) v found (makes v done unexcused kind listed))
      (all_each (Holds (PostStep run m run.old w) (λ z. is_started z ≡ false)) (λ u x y step p. post_step-holds run m run.old w (λ z. is_started z ≡ false) u (stage_from-each (StageHolds run m run.old w (λ z. is_started z ≡ false)) 1 (stages_of run) u.stage (λ t x y p o. absurd cc) (stop_holds (λ z. is_started z ≡ false) (off_outcome w))) x y step p) (visits run.log))
      x y reach
    where
      makes : (v : Visit) → v.done ≡ true → has v.excused m ≡ false → (stage_of run v).kind ≡ StageKind.Stop → has (stage_of run v).machines m ≡ true → Makes (PostStep run m run.old w) (λ z. is_started z ≡ false) v
      makes v done unexcused kind listed x y step =
          let worked : works run (stage_of run v) m run.old ≡ true = rw (listed, kind) (same_side_itself run.old) in
          let made : y ≡ stopped x = rw (worked, done, unexcused, kind) at step in
          ap is_started made ∙ is_running-stopped x

  -- the stage is the machine's Start wave, or doesn't work it at the new side
  starts_or_leaves : (v : Visit) → StartsOrLeaves run m w v
  starts_or_leaves v =
      stage_from-each StartsOr 1 (stages_of run) v.stage (inr (refl, refl))
      (each-start_up_op StartsOr run.plan (op run) run.start.forced up
      (λ s c. inr (not_wave s c, rw c.1 refl))
      (λ s k. starts s k (has s.machines m) refl)
      (λ s k. inr (rw k refl, and_no (has s.machines m) _ (rw k (side_of_other run.old))))
      (λ kind. inr (and_false (same_kind kind StageKind.Start), refl)))
    where
      StartsOr : Stage → Type 0
      StartsOr s =
          ((is_wave_of StageKind.Start m s ≡ true) × (s.kind ≡ StageKind.Start) × (works run s m (new run) ≡ true))
          ⊎ ((is_wave_of StageKind.Start m s ≡ false) × (works run s m (new run) ≡ false))

      not_wave : (s : Stage) → IsCallout s → is_wave_of StageKind.Start m s ≡ false
      not_wave s c = rw c.1 (and_false (same_kind s.kind StageKind.Start))

      starts : (s : Stage) → s.kind ≡ StageKind.Start → (b : Bool) → has s.machines m ≡ b → StartsOr s
      starts s k true h = inl (rw (k, h) refl, k, rw (h, k) (same_side_itself (new run)))
      starts s k false h = inr (rw (k, h) refl, rw h refl)

module _ (run : Run) (m : PlanMachine) (w : Placed) (e : op run ≡ Op.Failover) (of_plan : IsMachineOf run.plan m) (t : IsThrough run) where
  pub list_of : (b : Bool) → run.start.forced ≡ b → stages_of run ≡ stages run.plan Op.Failover b
  list_of b f = ap (λ o. stages run.plan o run.start.forced) e ∙ ap (λ b. stages run.plan Op.Failover b) f

  pub up : is_start_up (op run) ≡ true
  up = rw e refl

  waved : (kind : StageKind) (s : Stage) → Waves kind m.machine s → same_kind kind kind ≡ true → is_wave_of kind m.machine s ≡ true
  waved kind s h same = rw h.0 (rw same h.1)

  pub stop_wave : run.start.forced ≡ false → Some_of (λ s. is_wave_of StageKind.Stop m.machine s ≡ true) (stages_of run)
  stop_wave f = rw (list_of false f) (inr (some_of-left (λ s. is_wave_of StageKind.Stop m.machine s ≡ true) (wind_down StageKind.Stop run.plan) _ (some_of-map (Waves StageKind.Stop m.machine) (λ s. is_wave_of StageKind.Stop m.machine s ≡ true) (λ s h. waved StageKind.Stop s h refl) (wind_down StageKind.Stop run.plan) (winds_down_machine StageKind.Stop run.plan m of_plan))))

  start_waves : Some_of (λ s. is_wave_of StageKind.Start m.machine s ≡ true) (start_up run.plan)
  start_waves = some_of-map (Starts m.machine) (λ s. is_wave_of StageKind.Start m.machine s ≡ true) (λ s h. waved StageKind.Start s h refl) (start_up run.plan) (starts_machine run.plan m of_plan)

  start_wave : (b : Bool) → run.start.forced ≡ b → Some_of (λ s. is_wave_of StageKind.Start m.machine s ≡ true) (stages_of run)
  start_wave true f = rw (list_of true f) (inr start_waves)
  start_wave false f = rw (list_of false f) (inr (some_of-right (λ s. is_wave_of StageKind.Start m.machine s ≡ true) (wind_down StageKind.Stop run.plan) _ (inr (inr (inr start_waves)))))

  pub failover_new_post : (x y : Post) → ReachPost run m.machine (new run) w x y → NewPostMeaning Op.Failover run m.machine w x y
  failover_new_post x y reach =
      left_or_ready run m.machine w (visits run.log) (all_each (StartsOrLeaves run m.machine w) (starts_or_leaves run m.machine w up) (visits run.log)) t.done
      (visit_with run (λ s. is_wave_of StageKind.Start m.machine s ≡ true) t (start_wave run.start.forced refl)) x y reach

  pub failover_old_post : (b : Bool) → run.start.forced ≡ b → (x y : Post) → ReachPost run m.machine run.old w x y → OldPostMeaning Op.Failover b run m.machine x y
  failover_old_post true f x y reach =
      reach_post-holds run m.machine run.old w (λ z. z ≡ x)
      (rw (list_of true f) (
        λ t x y p o. absurd cc,
        each-start_up (StageHolds run m.machine run.old w (λ z. z ≡ x)) run.plan
            (λ s c t x y p o. absurd (callout_works run m.machine w run.old s c t))
            (λ s k t x y p o. absurd (elsewhere run m.machine w run.old s (rw k (other_side run.old)) t)),
      ))
      x y reach refl
  failover_old_post false f x y reach = go (is_excused m.machine (last_visit_of run (is_wave_of StageKind.Stop m.machine))) refl (old_post_either run m.machine w up x y reach)
    where
      go : (b : Bool) → is_excused m.machine (last_visit_of run (is_wave_of StageKind.Stop m.machine)) ≡ b → KeepsOrStops x y → (y ≡ stopped x) ⊎ (IsTrue (is_stop_skipped run m.machine) × (y ≡ x))
      go b skipped (inr stops) = inl stops
      go true skipped (inl same) = inr (or_right run.start.forced _ skipped, same)
      go false none (inl same) = inl (sym (stopped-same y (old_post_off run m.machine w up t (stop_wave f) none x y reach)) ∙ ap stopped same)
