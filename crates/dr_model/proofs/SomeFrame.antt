-- Whatever runs there were, some frame is expected; so of a group at rest in phase ready the opening one is.
use Rattle.std.specs.Prelude.{◌≡◌, ℕ, Bool, true, false, List, [], ◌∷◌, None, filter}
use Rattle.std.specs.Bool.{MatchBool}
use Rattle.std.proofs.Common.{refl, inl, subst}
use Rattle.dr_meaning.specs.Types.{Op, Phase, Estate, Record}
use Rattle.dr_outside.specs.Pairs.{Frame}
use Rattle.dr_meaning.specs.Testing.{with_snapshot}
use Rattle.dr_meaning.specs.Opening.{opening_frame}
use Rattle.dr_meaning.specs.Visits.{Visit, visits, all}
use Rattle.dr_meaning.specs.Runs.{Setting, Run, number, op, holds, is_finished, named_side, group_state, runs_of}
use Rattle.dr_meaning.specs.Outcomes.{split_frame, frozen_frame, reversed_frame, made_frame, FrameOutcome}
use Rattle.dr_meaning.specs.Reach.{Through, is_complete, FrameStep, ReachFrame, stage_of}
use Rattle.dr_meaning.specs.Meaning.{FrameMeaning, MeansFrame}
use Rattle.dr_meaning.specs.Expected.{After, LeavesFrame, ExpectedFrame}
use Rattle.dr_meaning.specs.Phases.{IsAtRest}
use Rattle.dr_meaning.specs.Lawful.{LawfulAfter}
use Rattle.dr_model.proofs.PhaseLaws.{Opens, in_ready}
use Rattle.dr_model.proofs.ChainLaws.{frames_by_state}

-- a run means some frame
means_some : (o : Op) (forced : Bool) (r : Run) (x : Frame) → (y : Frame) × FrameMeaning o forced r x y
means_some Op.Testing forced r x = (with_snapshot (number r) x, refl)
means_some Op.Cleanup forced r x = (record x { snapshot = None }, refl)
means_some Op.Migrate forced r x = (split_frame r (frozen_frame r x), refl)
means_some Op.Failover true r x = (split_frame r x, refl)
means_some Op.Failover false r x = (split_frame r (frozen_frame r x), inl refl)
means_some Op.Reprotect forced r x = (reversed_frame r (frozen_frame r x), refl)

-- and may have made one so far
reach_some : (r : Run) (vs : List Visit) (x : Frame) → (y : Frame) × Through (FrameStep r) vs x y
reach_some r [] x = (x, refl)
reach_some r (v ∷ vs) x = let (mid, reach) = reach_some r vs x in (made_frame r (stage_of r v).kind mid, (mid, reach, made mid (is_complete all v)))
  where
    made : (mid : Frame) (b : Bool) → MatchBool b (made_frame r (stage_of r v).kind mid ≡ made_frame r (stage_of r v).kind mid) (FrameOutcome r (stage_of r v).kind mid (made_frame r (stage_of r v).kind mid))
    made mid true = refl
    made mid false = inl refl

leaves_some : (r : Run) (x : Frame) → (y : Frame) × LeavesFrame r x y
leaves_some r x = go (is_finished r)
  where
    go : (b : Bool) → (y : Frame) × MatchBool b (MeansFrame r x y) (ReachFrame r x y)
    go true = means_some (op r) r.start.forced r x
    go false = reach_some r (visits r.log) x

some_frame : (estate : Estate) (g : ℕ) (hs : List Run) → (y : Frame) × After (Opens estate g) LeavesFrame hs y
some_frame estate g [] = (opening_frame (named_side estate g), refl)
some_frame estate g (r ∷ earlier) =
    let (x, before) = some_frame estate g earlier in
    let (y, leaves) = leaves_some r x in
    (y, (x, before, leaves))

-- In a lawful journal, of a group that no open run holds and that is ready, the opening frame is expected.
pub opening_expected : (setting : Setting) (records : List Record) (g : ℕ) → LawfulAfter setting [] records → IsAtRest (filter (holds g) (runs_of setting records)) → (group_state setting.estate g (runs_of setting records)).phase ≡ Phase.Ready → ExpectedFrame setting.estate g (runs_of setting records) (opening_frame (group_state setting.estate g (runs_of setting records)).protected)
opening_expected setting records g lawful rest ready =
    let (y, expected) = some_frame setting.estate g (filter (holds g) (runs_of setting records)) in
    let is : y ≡ opening_frame (group_state setting.estate g (runs_of setting records)).protected = in_ready _ _ y ready (frames_by_state setting records g y lawful rest expected) in
    subst (λ z. ExpectedFrame setting.estate g (runs_of setting records) z) is expected
