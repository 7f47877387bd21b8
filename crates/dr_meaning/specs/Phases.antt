-- The frames and posts of a group whose last run is finished, or that had none, and the posts under a run.
use Rattle.std.specs.Prelude.{◌≡◌, ℕ, ◌⊎◌, Bool, true, false, List, [], ◌∷◌, None, IsTrue}
use Rattle.dr_meaning.specs.Types.{Side, Link, Op, Placed, Post, Phase, GroupState}
use Rattle.dr_outside.specs.Pairs.{Frame}
use Rattle.dr_base.specs.Sides.{other, same_side}
use Rattle.dr_outside.specs.BySide.{at}
use Rattle.dr_meaning.specs.Opening.{opening_frame, IsInService}
use Rattle.dr_meaning.specs.Meaning.{is_left}
use Rattle.dr_meaning.specs.Outcomes.{IsAsWanted}
use Rattle.dr_meaning.specs.Runs.{Run, is_finished}

-- a frame from the protected side, split, writable at the other side, without snapshot
pub record IsRecovered (protected : Side) (y : Frame) : Type 0 where
  pub source : y.source ≡ protected
  pub link : y.link ≡ Link.Split
  pub written : at (other protected) y.writable ≡ true
  pub none : y.snapshot ≡ None

-- a frame in each phase: in phase ready exactly the opening one, in phase tested the same but for the snapshot
abbrev pub InPhase : Side → Phase → Frame → Type 0
InPhase protected Phase.Ready y = y ≡ opening_frame protected
InPhase protected Phase.Tested y = record y { snapshot = None } ≡ opening_frame protected
InPhase protected Phase.Recovered y = IsRecovered protected y

-- a frame as the state of its group wants it
abbrev pub AtRest : GroupState → Frame → Type 0
AtRest state y = InPhase state.protected state.phase y

-- the last of these runs, newest first, is finished, or there is none
abbrev pub IsAtRest : List Run → Type 0
IsAtRest [] = Unit {0}
IsAtRest (r ∷ earlier) = is_finished r ≡ true

-- Posts --------------------------------------------------------------------------------------------

-- one of the runs left the machine
abbrev pub WasLeft : ℕ → List Run → Type 0
WasLeft machine [] = ⊥
WasLeft machine (run ∷ earlier) = IsTrue (is_left run machine) ⊎ WasLeft machine earlier

-- ready in a bubble
abbrev pub IsInTest : Post → Type 0
IsInTest (Post.Ready placed) = placed.bubble ≡ true
IsInTest (Post.On placed) = ⊥
IsInTest (Post.Off placed) = ⊥
IsInTest Post.Placeholder = ⊥

-- A post of a machine in each phase, where `home` tells whether it is that of the protected side. A failover may have left the machine.
abbrev pub PostInPhase : (left : Type 0) → Phase → (home : Bool) → Post → Type 0
PostInPhase left Phase.Ready true y = IsInService y ⊎ left
PostInPhase left Phase.Ready false y = y ≡ Post.Placeholder
PostInPhase left Phase.Tested true y = IsInService y ⊎ left
PostInPhase left Phase.Tested false y = IsInTest y
PostInPhase left Phase.Recovered true y = Unit {0}
PostInPhase left Phase.Recovered false y = IsInService y ⊎ left

-- a machine's post at a side as the state of its group wants it
abbrev pub PostAtRest : ℕ → List Run → Side → GroupState → Post → Type 0
PostAtRest machine runs side state y = PostInPhase (WasLeft machine runs) state.phase (same_side side state.protected) y

-- The same under an unfinished run, where `home` tells whether the side is the run's old one.
abbrev pub PostUnderWay : Op → Placed → (left : Type 0) → (home : Bool) → Post → Type 0
PostUnderWay Op.Testing wanted left true y = IsInService y ⊎ left
PostUnderWay Op.Testing wanted left false y = IsAsWanted wanted y
PostUnderWay Op.Cleanup wanted left true y = IsInService y ⊎ left
PostUnderWay Op.Cleanup wanted left false y = Unit {0}
PostUnderWay Op.Migrate wanted left true y = Unit {0}
PostUnderWay Op.Migrate wanted left false y = IsAsWanted wanted y
PostUnderWay Op.Failover wanted left true y = Unit {0}
PostUnderWay Op.Failover wanted left false y = IsAsWanted wanted y
PostUnderWay Op.Reprotect wanted left true y = Unit {0}
PostUnderWay Op.Reprotect wanted left false y = IsInService y ⊎ left
