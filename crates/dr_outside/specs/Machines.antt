-- A machine's port: its posts, its kept codes, and what each call does to them.
use Rattle.std.specs.Prelude.{ℕ, ◌≡◌, ◌≤◌, ◌⊎◌, Bool, true, false, List, [], map, slice_index_or, Option, Some, Result, Ok, Err}
use Rattle.dr_base.specs.declared.side.Side.{Side}
use Rattle.dr_base.specs.Sides.{other}
use Rattle.dr_base.specs.Causes.{Rose}
use Rattle.dr_outside.specs.declared.sides.Sides.{Sides}
use Rattle.dr_outside.specs.declared.machine.Placed.{Placed}
use Rattle.dr_outside.specs.declared.machine.Kept.{Kept}
use Rattle.dr_outside.specs.declared.machine.Post.{Post}
use Rattle.dr_outside.specs.declared.machine.Post.TheVariants.{Placeholder, Off, On, Ready}
use Rattle.dr_outside.specs.declared.machine.PortCall.{PortCall}
use Rattle.dr_outside.specs.declared.machine.PortCall.TheVariants.{Register, Start, Stop, Unregister}
use Rattle.dr_outside.specs.declared.machine.PortFail.{PortFail}
use Rattle.dr_outside.specs.declared.machine.PortFail.TheVariants.{Failed, Wrong, Ran}
use Rattle.dr_outside.specs.BySide.{at}
use Rattle.dr_outside.specs.Commands.{code_of, RunsOnce}

-- a machine: its posts, the codes it keeps, and its faults by side
pub record PortState : Type 0 where
  pub post : Sides Post
  pub kept : List Kept
  pub faults : Side → ℕ

-- what holds after every call: counts don't fall, and a failed call raised its side's
pub record PortCause {T : Type 0} (side : Side) (old new : PortState) (result : Result T PortFail) : Type 0 where
  pub later : (s : Side) → old.faults s ≤ new.faults s
  pub failed : result ≡ Err Failed → Rose (old.faults side) (new.faults side)

-- whether a post is as a call needs it
abbrev pub is_ready_for : PortCall → Post → Bool
is_ready_for (Register placed) Placeholder = true
is_ready_for (Register placed) (Off x) = false
is_ready_for (Register placed) (On x) = false
is_ready_for (Register placed) (Ready x) = false
is_ready_for Start Placeholder = false
is_ready_for Start (Off x) = true
is_ready_for Start (On x) = true
is_ready_for Start (Ready x) = false
is_ready_for Stop Placeholder = false
is_ready_for Stop (Off x) = false
is_ready_for Stop (On x) = true
is_ready_for Stop (Ready x) = true
is_ready_for Unregister Placeholder = false
is_ready_for Unregister (Off x) = true
is_ready_for Unregister (On x) = false
is_ready_for Unregister (Ready x) = false

-- a post in another state with the same placement; a placeholder stays one
abbrev pub with_power : (Placed → Post) → Post → Post
with_power to Placeholder = Placeholder
with_power to (Off x) = to x
with_power to (On x) = to x
with_power to (Ready x) = to x

-- what a call makes of a post that is as it needs it
abbrev pub post_after : PortCall → Post → Post
post_after (Register placed) post = Off placed
post_after Start post = with_power Ready post
post_after Stop post = with_power Off post
post_after Unregister post = Placeholder

-- what a failed call may leave of such a post: the state before or after it; a start leaves Off, On or Ready
abbrev pub Left : PortCall → Post → Post → Type 0
Left (Register placed) old new = (new ≡ old) ⊎ (new ≡ Off placed)
Left Start old new = (new ≡ with_power Off old) ⊎ ((new ≡ with_power On old) ⊎ (new ≡ with_power Ready old))
Left Stop old new = (new ≡ old) ⊎ (new ≡ with_power Off old)
Left Unregister old new = (new ≡ old) ⊎ (new ≡ Placeholder)

-- this side's post changes to one that has P, and nothing else changes
pub record ChangesPost (side : Side) (old new : PortState) (P : Post → Type 0) : Type 0 where
  pub here : P (at side new.post)
  pub there : at (other side) new.post ≡ at (other side) old.post
  pub kept : new.kept ≡ old.kept

-- nothing changes but counts
pub record SameMachine (old new : PortState) : Type 0 where
  pub post : new.post ≡ old.post
  pub kept : new.kept ≡ old.kept

-- what a failed call leaves, by whether the post was as it needs it
abbrev pub FailedStep : Bool → PortCall → Side → PortState → PortState → Type 0
FailedStep true call side old new = ChangesPost side old new (Left call (at side old.post))
FailedStep false call side old new = SameMachine old new

-- what a call that changes a post does, by its answer
abbrev pub PortStep : PortCall → Side → PortState → PortState → Result (Unit {0}) PortFail → Type 0
PortStep call side old new (Ok _) = (is_ready_for call (at side old.post) ≡ true) × ChangesPost side old new (λ post. post ≡ post_after call (at side old.post))
PortStep call side old new (Err (Wrong found)) = (is_ready_for call (at side old.post) ≡ false) × (found ≡ at side old.post) × SameMachine old new
PortStep call side old new (Err (Ran code)) = ⊥
PortStep call side old new (Err Failed) = FailedStep (is_ready_for call (at side old.post)) call side old new

-- a reading of a post
abbrev pub PortRead : Side → PortState → PortState → Result Post PortFail → Type 0
PortRead side old new (Ok post) = (post ≡ at side old.post) × SameMachine old new
PortRead side old new (Err e) = SameMachine old new

-- a reading of a kept code
abbrev pub RanRead : ℕ → PortState → PortState → Result (Option ℕ) PortFail → Type 0
RanRead token old new (Ok code) = (code ≡ code_of old.kept token) × SameMachine old new
RanRead token old new (Err e) = SameMachine old new

-- a command ran now, and no post changed
pub record CommandRuns (side : Side) (token : ℕ) (name : List ℕ) (old new : PortState) (code : ℕ) : Type 0 where
  pub post : new.post ≡ old.post
  pub once : RunsOnce (Some side) token name old.kept new.kept code

-- what a command does, by its answer; a failed one leaves the state before or after it
abbrev pub CommandStep : Side → ℕ → List ℕ → PortState → PortState → Result ℕ PortFail → Type 0
CommandStep side token name old new (Ok code) = CommandRuns side token name old new code
CommandStep side token name old new (Err (Ran code)) = (code_of old.kept token ≡ Some code) × SameMachine old new
CommandStep side token name old new (Err (Wrong found)) = ⊥
CommandStep side token name old new (Err Failed) = SameMachine old new ⊎ ((code : ℕ) × CommandRuns side token name old new code)

-- a machine where there is none
abbrev pub no_machine : PortState
no_machine = record { post = record { a = Placeholder; b = Placeholder }; kept = []; faults = λ _. 0 }

-- the machine of a number, by the ports' states
abbrev pub machine_at : {P : Type 0} → (P → PortState) → List P → ℕ → PortState
machine_at state ports i = slice_index_or (map state ports) i no_machine

-- a call that changes a post keeps no code, and answers none
abbrev pub NeverRan : {T : Type 0} → Result T PortFail → Type 0
NeverRan (Ok x) = Unit {0}
NeverRan (Err Failed) = Unit {0}
NeverRan (Err (Wrong found)) = Unit {0}
NeverRan (Err (Ran code)) = ⊥

-- a command needs no post, and answers none
abbrev pub NeverWrong : {T : Type 0} → Result T PortFail → Type 0
NeverWrong (Ok x) = Unit {0}
NeverWrong (Err Failed) = Unit {0}
NeverWrong (Err (Wrong found)) = ⊥
NeverWrong (Err (Ran code)) = Unit {0}
