-- Posts of which the placement may be left open.
use Rattle.std.specs.Prelude.{◌≡◌, ◌↔◌, ◌⊎◌, Bool, true, false, ◌||◌, not, List, [], ◌∷◌, Option, Some, None, ℕ, if◌then◌else◌}
use Rattle.std.specs.Bool.{MatchBool}
use Rattle.dr_base.specs.Sides.{same_side}
use Rattle.dr_meaning.specs.Types.{Side, Op, Placement, Placed, Post}
use Rattle.dr_meaning.specs.declared.stage.StageKind.{StageKind}
use Rattle.dr_meaning.specs.Runs.{Run, op}
use Rattle.dr_meaning.specs.Outcomes.{made_post, PostOutcome}
use Rattle.dr_meaning.specs.Meaning.{is_stop_skipped, is_left}
use Rattle.dr_meaning.specs.Expected.{no_place}
use Rattle.dr_expected.specs.declared.posts.Wanted.{Wanted}
use Rattle.dr_expected.specs.declared.posts.Spot.{Spot}
use Rattle.dr_expected.specs.declared.posts.Standing.{Standing}
use Rattle.dr_expected.specs.Expecting.{HasItemFor}

-- the placement that maps give, or the one that no machine has
abbrev pub place_value : Option Placement → Placement
place_value None = no_place
place_value (Some place) = place

-- a wanted placement
abbrev pub placed_value : Wanted → Placed
placed_value wanted = record { place = place_value wanted.place; bubble = wanted.bubble }

-- the placement is at the spot: before any run any outside bubbles, else the wanted one
abbrev pub IsAt : Spot → Placed → Type 0
IsAt Spot.Opening placed = placed.bubble ≡ false
IsAt (Spot.At wanted) placed = placed ≡ placed_value wanted

-- the post stands so
abbrev pub IsStanding : Standing → Post → Type 0
IsStanding Standing.Placeholder Post.Placeholder = Unit {0}
IsStanding (Standing.Off spot) (Post.Off placed) = IsAt spot placed
IsStanding (Standing.On spot) (Post.On placed) = IsAt spot placed
IsStanding (Standing.Ready spot) (Post.Ready placed) = IsAt spot placed
IsStanding _ _ = ⊥

-- turned off, if the machine is registered there
abbrev pub stopped_standing : Standing → Standing
stopped_standing Standing.Placeholder = Standing.Placeholder
stopped_standing (Standing.Off spot) = Standing.Off spot
stopped_standing (Standing.On spot) = Standing.Off spot
stopped_standing (Standing.Ready spot) = Standing.Off spot

-- what a stage makes of it
abbrev pub made_standing : StageKind → Wanted → Standing → Standing
made_standing StageKind.Start wanted s = Standing.Ready (Spot.At wanted)
made_standing StageKind.Stop wanted s = stopped_standing s
made_standing StageKind.Clear wanted s = Standing.Placeholder
made_standing _ wanted s = s

-- what a failed start leaves of it
abbrev pub start_standings : Wanted → Standing → List Standing
start_standings wanted Standing.Placeholder = Standing.Placeholder ∷ Standing.Off (Spot.At wanted) ∷ Standing.On (Spot.At wanted) ∷ []
start_standings wanted (Standing.Off spot) = Standing.Off (Spot.At wanted) ∷ Standing.On (Spot.At wanted) ∷ []
start_standings wanted (Standing.On spot) = Standing.Off (Spot.At wanted) ∷ Standing.On (Spot.At wanted) ∷ []
start_standings wanted (Standing.Ready spot) = []

-- what the failed calls of a stage leave of it
abbrev pub failed_standings : StageKind → Wanted → Standing → List Standing
failed_standings StageKind.Start wanted s = start_standings wanted s
failed_standings StageKind.Stop wanted s = s ∷ []
failed_standings StageKind.Clear wanted s = s ∷ stopped_standing s ∷ []
failed_standings _ wanted s = []

-- what a stage leaves of a post, on a visit that is complete or not
abbrev pub PostOver : StageKind → Placed → Bool → Post → Post → Type 0
PostOver kind wanted complete x y = MatchBool complete (y ≡ made_post kind wanted x) (PostOutcome kind wanted x y)

-- one of these stands for y
abbrev pub AnyStands : {S X : Type 0} → (S → X → Type 0) → List S → X → Type 0
AnyStands StandsFor [] y = ⊥
AnyStands StandsFor (s ∷ items) y = StandsFor s y ⊎ AnyStands StandsFor items y

-- the list got these items
pub record GainsAll {S X : Type 0} (StandsFor : S → X → Type 0) (items before after : List S) : Type 0 where
  pub exactly : (y : X) → HasItemFor StandsFor after y ↔ (HasItemFor StandsFor before y ⊎ AnyStands StandsFor items y)

-- the stage that does what a finished run means, at the old side; Sync does nothing
abbrev pub old_kind : Op → Bool → StageKind
old_kind Op.Migrate forced = StageKind.Stop
old_kind Op.Failover false = StageKind.Stop
old_kind Op.Reprotect forced = StageKind.Clear
old_kind _ _ = StageKind.Sync

-- at the new side
abbrev pub new_kind : Op → StageKind
new_kind Op.Testing = StageKind.Start
new_kind Op.Cleanup = StageKind.Clear
new_kind Op.Migrate = StageKind.Start
new_kind Op.Failover = StageKind.Start
new_kind Op.Reprotect = StageKind.Sync

-- whether that was surely done, at the old side
abbrev pub is_old_sure : Op → Bool → Run → ℕ → Bool
is_old_sure Op.Failover false run machine = not (is_stop_skipped run machine)
is_old_sure _ _ run machine = true

-- at the new side
abbrev pub is_new_sure : Op → Run → ℕ → Bool
is_new_sure Op.Failover run machine = not (is_left run machine)
is_new_sure _ run machine = true

-- at a side
abbrev pub meant_kind : Run → Side → StageKind
meant_kind run side = if same_side side run.old then old_kind (op run) run.start.forced else new_kind (op run)

-- whether that was surely done at a side
abbrev pub is_sure : Run → ℕ → Side → Bool
is_sure run machine side = if same_side side run.old then is_old_sure (op run) run.start.forced run machine else is_new_sure (op run) run machine
