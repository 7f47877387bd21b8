-- The frames and posts that the journal's runs allow.
use Rattle.std.specs.Prelude.{◌≡◌, ℕ, Bool, true, false, List, [], ◌∷◌, Result, Ok, Err, filter}
use Rattle.std.specs.Bool.{MatchBool}
use Rattle.dr_outside.specs.Pairs.{Frame}
use Rattle.dr_mappings.specs.Placements.{place_of}
use Rattle.dr_meaning.specs.Types.{Side, Op, Placement, Unmapped, Placed, Post, Estate}
use Rattle.dr_meaning.specs.Opening.{opening_frame}
use Rattle.dr_meaning.specs.Worlds.{IsOpeningPost}
use Rattle.dr_meaning.specs.Runs.{Run, op, new, holds, is_finished, named_side}
use Rattle.dr_meaning.specs.Reach.{ReachFrame, ReachPost}
use Rattle.dr_meaning.specs.Meaning.{MeansFrame, MeansPost}

-- y comes from an opening state over these runs, newest first, one step for each
abbrev pub After : {X : Type 0} → (X → Type 0) → (Run → X → X → Type 0) → List Run → X → Type 0
After Opens Leaves [] y = Opens y
After {X} Opens Leaves (run ∷ earlier) y = (x : X) × After Opens Leaves earlier x × Leaves run x y

-- what a run leaves of a frame: a finished run what it means, any other one what it may have made so far
abbrev pub LeavesFrame : Run → Frame → Frame → Type 0
LeavesFrame run x y = MatchBool (is_finished run) (MeansFrame run x y) (ReachFrame run x y)

-- what a run leaves of a machine's post, alike
abbrev pub LeavesPost : Run → ℕ → Side → Placed → Post → Post → Type 0
LeavesPost run machine side wanted x y =
    MatchBool (is_finished run) (MeansPost run machine side wanted x y) (ReachPost run machine side wanted x y)

-- a placement that no machine has: it stands where maps give none, which an estate in force excludes
abbrev pub no_place : Placement
no_place = record { network = []; folder = []; pool = [] }

-- the placement that maps give
abbrev pub given : Result Placement Unmapped → Placement
given (Ok place) = place
given (Err unmapped) = no_place

-- a test alone runs its machines in a bubble
abbrev pub is_in_bubble : Op → Bool
is_in_bubble Op.Testing = true
is_in_bubble _ = false

-- the placement of a machine of this group at a side, in a bubble or not, by the maps from the side that the estate names for the group
abbrev pub placed_at : Estate → (group machine : ℕ) → Side → Bool → Placed
placed_at estate group machine side bubble =
    record { place = given (place_of estate machine (named_side estate group) side bubble); bubble = bubble }

-- the placement that a run wants for a machine of this group, at its new side
abbrev pub wanted : ℕ → Run → ℕ → Placed
wanted group run machine = placed_at run.estate group machine (new run) (is_in_bubble (op run))

-- the frame is one that the runs allow for a pair of this group
abbrev pub ExpectedFrame : Estate → ℕ → List Run → Frame → Type 0
ExpectedFrame estate group runs y =
    After (λ x. x ≡ opening_frame (named_side estate group)) LeavesFrame (filter (holds group) runs) y

-- the post is one that the runs allow for a machine of this group at a side
abbrev pub ExpectedPost : Estate → (group machine : ℕ) → Side → List Run → Post → Type 0
ExpectedPost estate group machine side runs y =
    After
    (λ x. IsOpeningPost (named_side estate group) side x)
    (λ run x y. LeavesPost run machine side (wanted group run machine) x y)
    (filter (holds group) runs) y
