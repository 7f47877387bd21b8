-- Laws on what one stage leaves: a stage that is worked in several calls stays within its outcomes.
use Rattle.std.specs.Prelude.{◌≡◌, ◌⊎◌, Bool}
use Rattle.std.proofs.Common.{refl, ap, ◌∙◌, arith, inl, inr}
use Rattle.dr_meaning.specs.Types.{Side, Sides, Placed, Post}
use Rattle.dr_meaning.specs.declared.stage.StageKind.{StageKind}
use Rattle.dr_outside.specs.Pairs.{Frame}
use Rattle.dr_outside.specs.BySide.{put}
use Rattle.dr_meaning.specs.Runs.{Run}
use Rattle.dr_meaning.specs.Outcomes.{IsAsWanted, IsOneOf, made_frame, FrameOutcome, stopped, made_post, start_leaves, PostOutcome}

pub put_twice : (side : Side) (b : Bool) (x : Sides Bool) → put side b (put side b x) ≡ put side b x
put_twice Side.A b x = refl
put_twice Side.B b x = refl

-- what is made stays made
pub made_frame_twice : (run : Run) (kind : StageKind) (x : Frame) → made_frame run kind (made_frame run kind x) ≡ made_frame run kind x
made_frame_twice run StageKind.Prepare x = ap (λ w. record x { writable = w }) (put_twice run.old _ x.writable)
made_frame_twice run StageKind.Split x = grind (arith, put_twice)
made_frame_twice run _ x = refl

-- a frame that is an outcome is made by the same work
pub made_frame-outcome : (run : Run) (kind : StageKind) (x y : Frame) → FrameOutcome run kind x y → made_frame run kind y ≡ made_frame run kind x
made_frame-outcome run kind x y (inl made) = ap (made_frame run kind) made ∙ made_frame_twice run kind x
made_frame-outcome run kind x y (inr same) = ap (made_frame run kind) same

pub frame_outcome_refl : (run : Run) (kind : StageKind) (x : Frame) → FrameOutcome run kind x x
frame_outcome_refl run kind x = inr refl

pub frame_outcome_trans : (run : Run) (kind : StageKind) (x y z : Frame) → FrameOutcome run kind x y → FrameOutcome run kind y z → FrameOutcome run kind x z
frame_outcome_trans run kind x y z xy (inl made) = inl (made ∙ made_frame-outcome run kind x y xy)
frame_outcome_trans run kind x y z (inl made) (inr same) = inl (same ∙ made)
frame_outcome_trans run kind x y z (inr e) (inr same) = inr (same ∙ e)

-- Posts

stopped_twice : (x : Post) → stopped (stopped x) ≡ stopped x
stopped_twice Post.Placeholder = refl
stopped_twice (Post.Off p) = refl
stopped_twice (Post.On p) = refl
stopped_twice (Post.Ready p) = refl

pub made_post_twice : (kind : StageKind) (wanted : Placed) (x : Post) → made_post kind wanted (made_post kind wanted x) ≡ made_post kind wanted x
made_post_twice StageKind.Stop wanted x = stopped_twice x
made_post_twice _ wanted x = refl

pub made_post-outcome : (kind : StageKind) (wanted : Placed) (x y : Post) → PostOutcome kind wanted x y → made_post kind wanted y ≡ made_post kind wanted x
made_post-outcome kind wanted x y (inl made) = ap (made_post kind wanted) made ∙ made_post_twice kind wanted x
made_post-outcome StageKind.Start wanted x y (inr left) = refl
made_post-outcome StageKind.Clear wanted x y (inr left) = refl
made_post-outcome StageKind.Stop wanted x y (inr same) = ap stopped same
made_post-outcome _ wanted x y (inr left) = elim left [ ]

pub post_outcome_refl : (kind : StageKind) (wanted : Placed) (x : Post) → (kind ≡ StageKind.Start → IsAsWanted wanted x) → PostOutcome kind wanted x x
post_outcome_refl StageKind.Start wanted Post.Placeholder h = inr (inl refl)
post_outcome_refl StageKind.Start wanted (Post.Off p) h = inr (inl (ap Post.Off (h refl)))
post_outcome_refl StageKind.Start wanted (Post.On p) h = inr (inr (ap Post.On (h refl)))
post_outcome_refl StageKind.Start wanted (Post.Ready p) h = inl (ap Post.Ready (h refl))
post_outcome_refl StageKind.Stop wanted x h = inr refl
post_outcome_refl StageKind.Clear wanted x h = inr (inl refl)
post_outcome_refl _ wanted x h = inl refl

-- what a start may leave of what a start may leave
start_trans : (wanted : Placed) (x y z : Post) → PostOutcome StageKind.Start wanted x y → IsOneOf (start_leaves wanted y) z → IsOneOf (start_leaves wanted x) z
start_trans wanted x y z (inl made) left = elim (rw made at left) [ ]
start_trans wanted Post.Placeholder y z (inr (inl e)) left = rw e at left
start_trans wanted Post.Placeholder y z (inr (inr (inl e))) left = inr (rw e at left)
start_trans wanted Post.Placeholder y z (inr (inr (inr e))) left = inr (rw e at left)
start_trans wanted (Post.Off p) y z (inr (inl e)) left = rw e at left
start_trans wanted (Post.Off p) y z (inr (inr e)) left = rw e at left
start_trans wanted (Post.On p) y z (inr (inl e)) left = rw e at left
start_trans wanted (Post.On p) y z (inr (inr e)) left = rw e at left
start_trans wanted (Post.Ready p) y z (inr e) left = elim e [ ]

clear_trans : (wanted : Placed) (x y z : Post) → PostOutcome StageKind.Clear wanted x y → (z ≡ y) ⊎ (z ≡ stopped y) → PostOutcome StageKind.Clear wanted x z
clear_trans wanted x y z (inl made) (inl e) = inl (e ∙ made)
clear_trans wanted x y z (inl made) (inr e) = inl (e ∙ ap stopped made)
clear_trans wanted x y z (inr (inl f)) (inl e) = inr (inl (e ∙ f))
clear_trans wanted x y z (inr (inl f)) (inr e) = inr (inr (e ∙ ap stopped f))
clear_trans wanted x y z (inr (inr f)) (inl e) = inr (inr (e ∙ f))
clear_trans wanted x y z (inr (inr f)) (inr e) = inr (inr (e ∙ ap stopped f ∙ stopped_twice x))

-- a post that is an outcome of an outcome
pub post_outcome_trans : (kind : StageKind) (wanted : Placed) (x y z : Post) → PostOutcome kind wanted x y → PostOutcome kind wanted y z → PostOutcome kind wanted x z
post_outcome_trans kind wanted x y z xy (inl made) = inl (made ∙ made_post-outcome kind wanted x y xy)
post_outcome_trans StageKind.Start wanted x y z xy (inr left) = inr (start_trans wanted x y z xy left)
post_outcome_trans StageKind.Clear wanted x y z xy (inr left) = clear_trans wanted x y z xy left
post_outcome_trans StageKind.Stop wanted x y z (inl made) (inr same) = inl (same ∙ made)
post_outcome_trans StageKind.Stop wanted x y z (inr e) (inr same) = inr (same ∙ e)
post_outcome_trans _ wanted x y z xy (inr left) = elim left [ ]
