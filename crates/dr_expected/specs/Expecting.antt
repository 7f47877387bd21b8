-- Lists that hold all that is expected.
use Rattle.std.specs.Prelude.{◌≡◌, ◌↔◌, ◌⊎◌, Bool, true, false, None, List, Contains}
use Rattle.std.specs.Bool.{MatchBool}
use Rattle.dr_meaning.specs.declared.stage.StageKind.{StageKind}
use Rattle.dr_meaning.specs.Types.{Op}
use Rattle.dr_meaning.specs.Runs.{Run, number}
use Rattle.dr_meaning.specs.Testing.{with_snapshot}
use Rattle.dr_meaning.specs.Outcomes.{made_frame, split_frame, frozen_frame, reversed_frame, FrameOutcome}
use Rattle.dr_meaning.specs.Meaning.{is_prepare_skipped}
use Rattle.dr_outside.specs.Pairs.{Frame as FrameValue}
use Rattle.dr_expected.specs.declared.frames.Frame.{Frame}
use Rattle.dr_expected.specs.Frames.{frame_value}

-- an item of the list stands for y
abbrev pub HasItemFor : {S X : Type 0} → (S → X → Type 0) → List S → X → Type 0
HasItemFor {S} StandsFor list y = (s : S) × Contains list s × StandsFor s y

-- the list shows exactly what has P
pub record Lists {S X : Type 0} (StandsFor : S → X → Type 0) (P : X → Type 0) (list : List S) : Type 0 where
  pub exactly : (y : X) → HasItemFor StandsFor list y ↔ P y

-- the list got one more item
pub record Gains {S X : Type 0} (StandsFor : S → X → Type 0) (item : S) (before after : List S) : Type 0 where
  pub exactly : (y : X) → HasItemFor StandsFor after y ↔ (HasItemFor StandsFor before y ⊎ StandsFor item y)

-- the list got exactly what comes by R from what the item stands for
pub record Adds {S X : Type 0} (StandsFor : S → X → Type 0) (R : X → X → Type 0) (item : S) (before after : List S) : Type 0 where
  pub exactly : (y : X) → HasItemFor StandsFor after y ↔ (HasItemFor StandsFor before y ⊎ ((x : X) × StandsFor item x × R x y))

-- the second list shows exactly what comes by R from what the first one shows
pub record Leads {S X : Type 0} (StandsFor : S → X → Type 0) (R : X → X → Type 0) (list next : List S) : Type 0 where
  pub exactly : (y : X) → HasItemFor StandsFor next y ↔ ((x : X) × HasItemFor StandsFor list x × R x y)

-- a frame of the program stands for its value
abbrev pub IsFrame : Frame → FrameValue → Type 0
IsFrame s y = y ≡ frame_value s

-- what a stage of this kind leaves of a frame, on a visit that is complete or not
abbrev pub FrameOver : Run → StageKind → Bool → FrameValue → FrameValue → Type 0
FrameOver run kind complete x y = MatchBool complete (y ≡ made_frame run kind x) (FrameOutcome run kind x y)

-- what a finished run makes of a frame; of a failover, with nothing skipped
abbrev pub meant_frame : Op → Bool → Run → FrameValue → FrameValue
meant_frame Op.Testing forced run x = with_snapshot (number run) x
meant_frame Op.Cleanup forced run x = record x { snapshot = None }
meant_frame Op.Migrate forced run x = split_frame run (frozen_frame run x)
meant_frame Op.Failover true run x = split_frame run x
meant_frame Op.Failover false run x = split_frame run (frozen_frame run x)
meant_frame Op.Reprotect forced run x = reversed_frame run (frozen_frame run x)

-- whether the run may have left the old side writable besides
abbrev pub may_skip : Op → Bool → Run → Bool
may_skip Op.Failover false run = is_prepare_skipped run
may_skip _ _ run = false
