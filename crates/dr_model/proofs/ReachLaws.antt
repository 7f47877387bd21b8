-- How one record or one call changes what a run may have made of an object.
use Rattle.std.specs.Prelude.{◌≡◌, ℕ, ◌⊎◌, Bool, true, false, List, [], ◌∷◌}
use Rattle.std.proofs.Common.{refl, sym, ◌∙◌, inl, inr}
use Rattle.dr_meaning.specs.Types.{Side, Placed, Post, Record}
use Rattle.dr_meaning.specs.declared.stage.StageKind.{StageKind}
use Rattle.dr_outside.specs.Pairs.{Frame}
use Rattle.dr_base.specs.Lists.{has}
use Rattle.dr_meaning.specs.Stages.{stage_at}
use Rattle.dr_meaning.specs.Visits.{Visit, visits, excuse, all}
use Rattle.dr_meaning.specs.Runs.{Run, stages_of, with_record}
use Rattle.dr_meaning.specs.Outcomes.{IsAsWanted, made_frame, FrameOutcome, made_post, PostOutcome}
use Rattle.dr_meaning.specs.Reach.{Through, FrameStep, ReachFrame, works, PostStep}
use Rattle.dr_model.proofs.OutcomeLaws.{made_frame-outcome, frame_outcome_trans, made_post-outcome, post_outcome_refl, post_outcome_trans}

-- a visit that is not done
abbrev pub begun_visit : ℕ → List ℕ → Visit
begun_visit stage excused = record { stage = stage; done = false; excused = excused }

abbrev pub done_visit : ℕ → List ℕ → Visit
done_visit stage excused = record { stage = stage; done = true; excused = excused }

abbrev pub kind_at : Run → ℕ → StageKind
kind_at run stage = (stage_at (stages_of run) stage).kind

-- Frames

-- a Begin
pub frame_begin : (run : Run) (stage : ℕ) (vs : List Visit) (x y : Frame) → Through (FrameStep run) vs x y → Through (FrameStep run) (begun_visit stage [] ∷ vs) x y
frame_begin run stage vs x y reach = (y, reach, inr refl)

-- a call, Ok or Failed, in a begun stage
pub frame_call : (run : Run) (stage : ℕ) (excused : List ℕ) (vs : List Visit) (x y z : Frame) → Through (FrameStep run) (begun_visit stage excused ∷ vs) x y → FrameOutcome run (kind_at run stage) y z → Through (FrameStep run) (begun_visit stage excused ∷ vs) x z
frame_call run stage excused vs x y z (mid, reach, out) call = (mid, reach, frame_outcome_trans run _ mid y z out call)

-- a Skip or an Aside
pub frame_excuse : (run : Run) (stage machine : ℕ) (excused : List ℕ) (vs : List Visit) (x y : Frame) → Through (FrameStep run) (begun_visit stage excused ∷ vs) x y → Through (FrameStep run) (excuse machine (begun_visit stage excused ∷ vs)) x y
frame_excuse run stage machine excused vs x y reach = reach

-- a Done, where the frame is made or all pairs are skipped
pub frame_done : (run : Run) (stage : ℕ) (excused : List ℕ) (vs : List Visit) (x y : Frame) → Through (FrameStep run) (begun_visit stage excused ∷ vs) x y → (has excused all ≡ true) ⊎ (made_frame run (kind_at run stage) y ≡ y) → Through (FrameStep run) (done_visit stage excused ∷ vs) x y
frame_done run stage excused vs x y (mid, reach, out) h = (mid, reach, go (has excused all) refl h)
  where
    go : (b : Bool) → has excused all ≡ b → (has excused all ≡ true) ⊎ (made_frame run (kind_at run stage) y ≡ y) → FrameStep run (done_visit stage excused) mid y
    go true e h = rw e out
    go false e (inl s) = absurd cc
    go false e (inr made) = rw e (sym made ∙ made_frame-outcome run _ mid y out)

-- Posts

pub post_begin : (run : Run) (machine : ℕ) (side : Side) (w : Placed) (stage : ℕ) (vs : List Visit) (x y : Post) → (works run (stage_at (stages_of run) stage) machine side ≡ true → kind_at run stage ≡ StageKind.Start → IsAsWanted w y) → Through (PostStep run machine side w) vs x y → Through (PostStep run machine side w) (begun_visit stage [] ∷ vs) x y
post_begin run machine side w stage vs x y wanted reach = (y, reach, go (works run (stage_at (stages_of run) stage) machine side) refl)
  where
    go : (b : Bool) → works run (stage_at (stages_of run) stage) machine side ≡ b → PostStep run machine side w (begun_visit stage []) y y
    go true e = rw e (post_outcome_refl (kind_at run stage) w y (wanted e))
    go false e = rw e refl

-- a call, Ok or Failed, in a begun stage that works the machine
pub post_call : (run : Run) (machine : ℕ) (side : Side) (w : Placed) (stage : ℕ) (excused : List ℕ) (vs : List Visit) (x y z : Post) → works run (stage_at (stages_of run) stage) machine side ≡ true → Through (PostStep run machine side w) (begun_visit stage excused ∷ vs) x y → PostOutcome (kind_at run stage) w y z → Through (PostStep run machine side w) (begun_visit stage excused ∷ vs) x z
post_call run machine side w stage excused vs x y z works_it (mid, reach, out) call =
    (mid, reach, rw works_it (post_outcome_trans (kind_at run stage) w mid y z (rw works_it at out) call))

pub post_excuse : (run : Run) (machine : ℕ) (side : Side) (w : Placed) (stage m : ℕ) (excused : List ℕ) (vs : List Visit) (x y : Post) → Through (PostStep run machine side w) (begun_visit stage excused ∷ vs) x y → Through (PostStep run machine side w) (excuse m (begun_visit stage excused ∷ vs)) x y
post_excuse run machine side w stage m excused vs x y reach = reach

-- a Done, where the post is made, or the machine is excused, or the stage doesn't work it
pub post_done : (run : Run) (machine : ℕ) (side : Side) (w : Placed) (stage : ℕ) (excused : List ℕ) (vs : List Visit) (x y : Post) → Through (PostStep run machine side w) (begun_visit stage excused ∷ vs) x y → (works run (stage_at (stages_of run) stage) machine side ≡ true → (has excused machine ≡ true) ⊎ (made_post (kind_at run stage) w y ≡ y)) → Through (PostStep run machine side w) (done_visit stage excused ∷ vs) x y
post_done run machine side w stage excused vs x y (mid, reach, out) h = (mid, reach, go (works run (stage_at (stages_of run) stage) machine side) refl)
  where
    worked : (b : Bool) → has excused machine ≡ b → works run (stage_at (stages_of run) stage) machine side ≡ true → (has excused machine ≡ true) ⊎ (made_post (kind_at run stage) w y ≡ y) → PostStep run machine side w (done_visit stage excused) mid y
    worked true e t d = rw (t, e) (rw t at out)
    worked false e t (inl s) = absurd cc
    worked false e t (inr made) = rw (t, e) (sym made ∙ made_post-outcome (kind_at run stage) w mid y (rw t at out))

    go : (b : Bool) → works run (stage_at (stages_of run) stage) machine side ≡ b → PostStep run machine side w (done_visit stage excused) mid y
    go true t = worked (has excused machine) refl t (h t)
    go false t = rw t (rw t at out)

-- By records: each at the end of a run's log.

pub reach_frame-begin : (run : Run) (n stage : ℕ) (x y : Frame) → ReachFrame run x y → ReachFrame (with_record run (Record.Begin n stage)) x y
reach_frame-begin run n stage x y reach = frame_begin run stage (visits run.log) x y reach

pub reach_frame-done : (run : Run) (n stage : ℕ) (excused : List ℕ) (vs : List Visit) (x y : Frame) → visits run.log ≡ begun_visit stage excused ∷ vs → ReachFrame run x y → (has excused all ≡ true) ⊎ (made_frame run (kind_at run stage) y ≡ y) → ReachFrame (with_record run (Record.Done n stage)) x y
reach_frame-done run n stage excused vs x y begun reach h = rw begun (frame_done run stage excused vs x y (rw begun at reach) h)

pub reach_frame-attempt : (run : Run) (n moment : ℕ) (x y : Frame) → ReachFrame run x y → ReachFrame (with_record run (Record.Attempt n moment)) x y
reach_frame-attempt run n moment x y reach = reach
