-- A run whose stages are all done, with nothing skipped or set aside: what all its stages keep, and what one of them sets.
use Rattle.std.specs.Prelude.{◌≡◌, ℕ, ◌⊎◌, Bool, true, false, [], None, cond}
use Rattle.std.proofs.Common.{refl, ap, ◌∙◌, inl}
use Rattle.dr_meaning.specs.Types.{Side, Placed, Post}
use Rattle.dr_meaning.specs.declared.stage.Stage.{Stage}
use Rattle.dr_outside.specs.Pairs.{Frame}
use Rattle.dr_meaning.specs.Stages.{no_stage}
use Rattle.dr_meaning.specs.Visits.{Visit, visits}
use Rattle.dr_meaning.specs.Runs.{Run, stages_of}
use Rattle.dr_meaning.specs.Outcomes.{made_frame, made_post}
use Rattle.dr_meaning.specs.Reach.{Through, FrameStep, ReachFrame, works, PostStep, ReachPost, stage_of}
use Rattle.dr_meaning.specs.Next.{least_undone}
use Rattle.dr_meaning.proofs.Lists.{Each, Some_of, each-map, some_of-map, some_of-both}
use Rattle.dr_model.proofs.StageLaws.{stage_from-each, done_number}
use Rattle.dr_model.proofs.ThroughLaws.{Keeps, KeepsOrSets, Sets, through_keeps, through_sets, visited}

-- done, with nothing skipped or set aside
pub record IsWhole (v : Visit) : Type 0 where
  pub done : v.done ≡ true
  pub none : v.excused ≡ []

pub record IsWalked (run : Run) : Type 0 where
  pub all_done : least_undone run ≡ None
  pub whole : Each IsWhole (visits run.log)

module _ {X A : Type 0} (run : Run) (made : Stage → X → X) (Step : Visit → X → X → Type 0) (whole : (v : Visit) → IsWhole v → (x y : X) → Step v x y → y ≡ made (stage_of run v) x) (quiet : (x : X) → made no_stage x ≡ x) (f : X → A) where
  abbrev pub StageKeeps : Stage → Type 0
  StageKeeps s = (x : X) → f (made s x) ≡ f x

  abbrev pub StageSets : A → Stage → Type 0
  StageSets a s = (x : X) → f (made s x) ≡ a

  abbrev pub StageKeepsOrSets : A → Stage → Type 0
  StageKeepsOrSets a s = (x : X) → (f (made s x) ≡ f x) ⊎ (f (made s x) ≡ a)

  pub walked_keeps : Each StageKeeps (stages_of run) → IsWalked run → (x y : X) → Through Step (visits run.log) x y → f y ≡ f x
  walked_keeps h w x y reach =
      through_keeps Step f (visits run.log)
      (each-map IsWhole (Keeps Step f)
      (λ v v_whole x y step. ap f (whole v v_whole x y step) ∙ stage_from-each StageKeeps 1 (stages_of run) v.stage (λ x. ap f (quiet x)) h x)
      (visits run.log) w.whole)
      x y reach

  pub walked_sets : (a : A) → Each (StageKeepsOrSets a) (stages_of run) → Some_of (StageSets a) (stages_of run) → IsWalked run → (x y : X) → Through Step (visits run.log) x y → f y ≡ a
  walked_sets a h some w x y reach =
      let (k, above, sets, done) = done_number (StageSets a) run.log 1 (stages_of run) w.all_done some in
      through_sets Step f a (visits run.log)
      (each-map IsWhole (KeepsOrSets Step f a)
      (λ v v_whole x y step. rw (whole v v_whole x y step) (stage_from-each (StageKeepsOrSets a) 1 (stages_of run) v.stage (λ x. inl (ap f (quiet x))) h x))
      (visits run.log) w.whole)
      (some_of-map (λ v. IsWhole v × (v.stage ≡ k)) (Sets Step f a)
      (λ v both x y step. let here : StageSets a (stage_of run v) = rw both.1 sets in ap f (whole v both.0 x y step) ∙ here x)
      (visits run.log)
      (some_of-both IsWhole (λ v. v.stage ≡ k) (visits run.log) w.whole (visited k (visits run.log) done)))
      x y reach

-- at a whole visit the frame is made
pub whole_frame : (run : Run) (v : Visit) → IsWhole v → (x y : Frame) → FrameStep run v x y → y ≡ made_frame run (stage_of run v).kind x
whole_frame run v w x y step = rw (w.done, w.none) at step

pub frame_keeps : {A : Type 0} (run : Run) (f : Frame → A) → Each (λ s. (x : Frame) → f (made_frame run s.kind x) ≡ f x) (stages_of run) → IsWalked run → (x y : Frame) → ReachFrame run x y → f y ≡ f x
frame_keeps run f = walked_keeps run (λ s x. made_frame run s.kind x) (FrameStep run) (whole_frame run) (λ x. refl) f

pub frame_sets : {A : Type 0} (run : Run) (f : Frame → A) (a : A) → Each (λ s. (x : Frame) → (f (made_frame run s.kind x) ≡ f x) ⊎ (f (made_frame run s.kind x) ≡ a)) (stages_of run) → Some_of (λ s. (x : Frame) → f (made_frame run s.kind x) ≡ a) (stages_of run) → IsWalked run → (x y : Frame) → ReachFrame run x y → f y ≡ a
frame_sets run f a = walked_sets run (λ s x. made_frame run s.kind x) (FrameStep run) (whole_frame run) (λ x. refl) f a

-- at a whole visit the post is made, if the stage works it
abbrev pub post_made : Run → ℕ → Side → Placed → Stage → Post → Post
post_made run machine side wanted stage x = cond (works run stage machine side) (made_post stage.kind wanted x) x

pub whole_post : (run : Run) (machine : ℕ) (side : Side) (wanted : Placed) (v : Visit) → IsWhole v → (x y : Post) → PostStep run machine side wanted v x y → y ≡ post_made run machine side wanted (stage_of run v) x
whole_post run machine side wanted v w x y step = go (works run (stage_of run v) machine side) refl
  where
    go : (b : Bool) → works run (stage_of run v) machine side ≡ b → y ≡ cond (works run (stage_of run v) machine side) (made_post (stage_of run v).kind wanted x) x
    go true e = rw e (rw (e, w.done, w.none) at step)
    go false e = rw e (rw e at step)

pub post_keeps : {A : Type 0} (run : Run) (machine : ℕ) (side : Side) (wanted : Placed) (f : Post → A) → Each (λ s. (x : Post) → f (post_made run machine side wanted s x) ≡ f x) (stages_of run) → IsWalked run → (x y : Post) → ReachPost run machine side wanted x y → f y ≡ f x
post_keeps run machine side wanted f = walked_keeps run (post_made run machine side wanted) (PostStep run machine side wanted) (whole_post run machine side wanted) (λ x. refl) f

pub post_sets : {A : Type 0} (run : Run) (machine : ℕ) (side : Side) (wanted : Placed) (f : Post → A) (a : A) → Each (λ s. (x : Post) → (f (post_made run machine side wanted s x) ≡ f x) ⊎ (f (post_made run machine side wanted s x) ≡ a)) (stages_of run) → Some_of (λ s. (x : Post) → f (post_made run machine side wanted s x) ≡ a) (stages_of run) → IsWalked run → (x y : Post) → ReachPost run machine side wanted x y → f y ≡ a
post_sets run machine side wanted f a = walked_sets run (post_made run machine side wanted) (PostStep run machine side wanted) (whole_post run machine side wanted) (λ x. refl) f a
