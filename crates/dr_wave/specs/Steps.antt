-- What a machine's step leaves of it, and what it tells.
use Rattle.std.specs.Prelude.{ℕ, ◌≡◌, ◌≤◌, ◌⊎◌, true, false, List, [], ◌∷◌, take, Option, None, IfSome, IfNone}
use Rattle.dr_base.specs.declared.side.Side.{Side}
use Rattle.dr_base.specs.declared.side.Side.TheVariants.{A, B}
use Rattle.dr_base.specs.Sides.{other}
use Rattle.dr_base.specs.Causes.{Rose}
use Rattle.dr_outside.specs.declared.machine.Placed.{Placed}
use Rattle.dr_outside.specs.declared.machine.Post.{Post}
use Rattle.dr_outside.specs.declared.machine.Post.TheVariants.{Placeholder, Ready}
use Rattle.dr_outside.specs.BySide.{at}
use Rattle.dr_outside.specs.Commands.{HasTokensOnce}
use Rattle.dr_outside.specs.Machines.{PortState, SameMachine, ChangesPost}
use Rattle.dr_meaning.specs.declared.stage.StageKind.{StageKind}
use Rattle.dr_meaning.specs.StartUp.{is_started}
use Rattle.dr_meaning.specs.Outcomes.{made_post, PostOutcome, IsAsWanted}
use Rattle.dr_wave.specs.declared.slot.StartWant.{StartWant}
use Rattle.dr_wave.specs.declared.slot.Want.{Want}
use Rattle.dr_wave.specs.declared.slot.Found.{Found}
use Rattle.dr_wave.specs.Commands.{commands_from, RanFirst, AreKept, AreCodes}

-- What is wanted ---------------------------------------------------------------------------------------

-- the placement that a start wants, in a bubble or not
abbrev pub placed_of : StartWant → Placed
placed_of want = record { place = want.place; bubble = want.bubble }

-- the commands of a start that run before power-on, by place
abbrev pub before_power : StartWant → List (Option (List ℕ))
before_power want = take 2 want.commands

-- What is left of the machine -----------------------------------------------------------------------------

-- a post is as it was, or what a stage may leave of it, where a start wants this placement
abbrev pub PostStep : StageKind → Placed → Post → Post → Type 0
PostStep kind wanted x y = (y ≡ x) ⊎ PostOutcome kind wanted x y

-- what a start leaves: the post at its side as its stage may, the other one as it was, and of the commands that weren't kept the first, in order
pub record StartLeaves (want : StartWant) (old new : PortState) : Type 0 where
  pub here : PostStep StageKind.Start (placed_of want) (at want.side old.post) (at want.side new.post)
  pub there : at (other want.side) new.post ≡ at (other want.side) old.post
  pub ran : RanFirst want.side (commands_from want.root 0 want.commands) old.kept new.kept
  -- each token is kept once
  pub once : HasTokensOnce old.kept → HasTokensOnce new.kept
  -- no command runs before the machine is registered
  pub registered : at want.side new.post ≡ Placeholder → new.kept ≡ old.kept
  -- where it was started now, its commands before power-on are kept
  pub in_order : is_started (at want.side old.post) ≡ false → is_started (at want.side new.post) ≡ true → AreKept new.kept want.root 0 (before_power want)
  -- a command after power-on runs only once the machine is ready
  pub after_power : (at want.side new.post ≡ Ready (placed_of want)) ⊎ RanFirst want.side (commands_from want.root 0 (before_power want)) old.kept new.kept
  -- a machine that stands otherwise than is wanted isn't touched
  pub untouched : IsAsWanted (placed_of want) (at want.side old.post) ⊎ SameMachine old new

-- what a step without commands leaves: the post at its side as its stage may, and nothing else changes
abbrev pub PostLeaves : StageKind → Side → PortState → PortState → Type 0
PostLeaves kind side old new = ChangesPost side old new (λ post. (wanted : Placed) → PostStep kind wanted (at side old.post) post)

-- what the step that is wanted leaves
abbrev pub Leaves : Want → PortState → PortState → Type 0
Leaves Want.Nothing old new = SameMachine old new
Leaves Want.Look old new = SameMachine old new
Leaves (Want.Start want) old new = StartLeaves want old new
Leaves (Want.Stop side) old new = PostLeaves StageKind.Stop side old new
Leaves (Want.Clear side) old new = PostLeaves StageKind.Clear side old new

-- What is told ------------------------------------------------------------------------------------------------

-- no count of faults falls
abbrev pub NoCountFalls : PortState → PortState → Type 0
NoCountFalls old new = (side : Side) → old.faults side ≤ new.faults side

-- when a step at this side ends before it is complete: this side's count rose, or a call there was refused
abbrev pub EndCause : Side → PortState → PortState → Found → Type 0
EndCause side old new Found.Nothing = ⊥
EndCause side old new (Found.Looked a b) = ⊥
EndCause side old new (Found.Made codes) = ⊥
EndCause side old new (Found.Failed s) = (s ≡ side) × Rose (old.faults side) (new.faults side)
EndCause side old new (Found.Odd s post) = ⊥
EndCause side old new (Found.Refused s post) = s ≡ side

-- when a look tells so: a post is missing only where its side's count rose
abbrev pub LookCause : PortState → PortState → Found → Type 0
LookCause old new Found.Nothing = ⊥
LookCause old new (Found.Looked a b) = IfNone a (Rose (old.faults A) (new.faults A)) × IfNone b (Rose (old.faults B) (new.faults B))
LookCause old new (Found.Made codes) = ⊥
LookCause old new (Found.Failed s) = ⊥
LookCause old new (Found.Odd s post) = ⊥
LookCause old new (Found.Refused s post) = ⊥

-- when a start tells so: a post is odd where it has another placement than is wanted
abbrev pub StartCause : StartWant → PortState → PortState → Found → Type 0
StartCause want old new Found.Nothing = ⊥
StartCause want old new (Found.Looked a b) = ⊥
StartCause want old new (Found.Made codes) = Unit {0}
StartCause want old new (Found.Failed s) = EndCause want.side old new (Found.Failed s)
StartCause want old new (Found.Odd s post) = (s ≡ want.side) × ¬ IsAsWanted (placed_of want) post
StartCause want old new (Found.Refused s post) = EndCause want.side old new (Found.Refused s post)

-- when a step without commands tells so; where it is complete it has no codes
abbrev pub PostCause : Side → PortState → PortState → Found → Type 0
PostCause side old new Found.Nothing = ⊥
PostCause side old new (Found.Looked a b) = ⊥
PostCause side old new (Found.Made codes) = codes ≡ None ∷ None ∷ None ∷ None ∷ []
PostCause side old new (Found.Failed s) = EndCause side old new (Found.Failed s)
PostCause side old new (Found.Odd s post) = ⊥
PostCause side old new (Found.Refused s post) = EndCause side old new (Found.Refused s post)

-- when a step tells so, whatever the port tells
abbrev pub Cause : Want → PortState → PortState → Found → Type 0
Cause Want.Nothing old new found = (found ≡ Found.Nothing) × (new ≡ old)
Cause Want.Look old new found = LookCause old new found
Cause (Want.Start want) old new found = StartCause want old new found
Cause (Want.Stop side) old new found = PostCause side old new found
Cause (Want.Clear side) old new found = PostCause side old new found

-- a start that is complete: the machine stood as wanted or wasn't registered, it is ready as wanted, and for each of its commands the code is kept that is told
pub record StartMade (want : StartWant) (old new : PortState) (codes : List (Option ℕ)) : Type 0 where
  pub stood : IsAsWanted (placed_of want) (at want.side old.post)
  pub ready : at want.side new.post ≡ Ready (placed_of want)
  pub told : AreCodes new.kept want.root 0 want.commands codes

-- what a step without commands tells: where it is complete, what its stage makes is made; it is never refused
abbrev pub PostTold : StageKind → Side → PortState → PortState → Found → Type 0
PostTold kind side old new Found.Nothing = Unit {0}
PostTold kind side old new (Found.Looked a b) = Unit {0}
PostTold kind side old new (Found.Made codes) = (wanted : Placed) → at side new.post ≡ made_post kind wanted (at side old.post)
PostTold kind side old new (Found.Failed s) = Unit {0}
PostTold kind side old new (Found.Odd s post) = Unit {0}
PostTold kind side old new (Found.Refused s post) = ⊥

-- what a start tells: where it is complete, all is made and kept; an odd post is the one that was there; it is never refused
abbrev pub StartTold : StartWant → PortState → PortState → Found → Type 0
StartTold want old new Found.Nothing = Unit {0}
StartTold want old new (Found.Looked a b) = Unit {0}
StartTold want old new (Found.Made codes) = StartMade want old new codes
StartTold want old new (Found.Failed s) = Unit {0}
StartTold want old new (Found.Odd s post) = post ≡ at want.side old.post
StartTold want old new (Found.Refused s post) = ⊥

-- what a look tells: the posts that are there
abbrev pub LookTold : PortState → Found → Type 0
LookTold old Found.Nothing = Unit {0}
LookTold old (Found.Looked a b) = IfSome a (λ post. post ≡ old.post.a) × IfSome b (λ post. post ≡ old.post.b)
LookTold old (Found.Made codes) = Unit {0}
LookTold old (Found.Failed s) = Unit {0}
LookTold old (Found.Odd s post) = Unit {0}
LookTold old (Found.Refused s post) = Unit {0}

-- what a step tells of a port that tells its posts and kept codes
abbrev pub Told : Want → PortState → PortState → Found → Type 0
Told Want.Nothing old new found = Unit {0}
Told Want.Look old new found = LookTold old found
Told (Want.Start want) old new found = StartTold want old new found
Told (Want.Stop side) old new found = PostTold StageKind.Stop side old new found
Told (Want.Clear side) old new found = PostTold StageKind.Clear side old new found

-- a machine's step, by what is wanted of it: counts don't fall, and what it found has its cause; and where the port tells, what is left of the machine, and what the step tells of it
pub record Step (tells : Type 0) (want : Want) (old new : PortState) (found : Found) : Type 0 where
  pub later : NoCountFalls old new
  pub cause : Cause want old new found
  pub leaves : tells → Leaves want old new
  pub told : tells → Told want old new found
