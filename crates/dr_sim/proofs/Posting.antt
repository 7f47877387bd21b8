-- What a simulated machine's calls leave is what a port's may leave.
use Rattle.std.proofs.Common.{◌≡◌, ℕ, inl, inr, Bool, true, false, ◌&&◌, ◌==◌, if◌then◌else◌, Option, Some, None, refl, ◌∙◌, ap}
use Rattle.std.proofs.lemmas.Bool.{cases_Bool}
use Rattle.dr_base.specs.declared.side.Side.{Side}
use Rattle.dr_base.specs.declared.side.Side.TheVariants.{A, B}
use Rattle.dr_base.specs.Sides.{other}
use Rattle.dr_outside.specs.declared.sides.Sides.{Sides}
use Rattle.dr_outside.specs.declared.machine.Post.{Post}
use Rattle.dr_outside.specs.declared.machine.Post.TheVariants.{Placeholder, Off, On, Ready}
use Rattle.dr_outside.specs.declared.machine.PortCall.{PortCall}
use Rattle.dr_outside.specs.declared.machine.PortCall.TheVariants.{Register, Start, Stop, Unregister}
use Rattle.dr_outside.specs.BySide.{at, put}
use Rattle.dr_outside.specs.Machines.{PortState, PortStep, ChangesPost, SameMachine, Left, is_ready_for, post_after, with_power}
use Rattle.dr_outside.proofs.BySide.{at-put_same, at-put_other}
use Rattle.dr_sim.specs.Ports.{is_start, post_left, post_then, call_answer}

-- what stands at a side is put there
pub put-at : {T : Type 0} (side : Side) (sides : Sides T) → put side (at side sides) sides ≡ sides
put-at A sides = refl
put-at B sides = refl

-- what a fault leaves is as the call may leave it
left_of : (a b : Bool) (call : PortCall) (post : Post) → Left call post (if a then post else (if b && is_start call then with_power On post else post_after call post))
left_of true b (Register x) post = inl refl
left_of true b Start Placeholder = inl refl
left_of true b Start (Off x) = inl refl
left_of true b Start (On x) = inr (inl refl)
left_of true b Start (Ready x) = inr (inr refl)
left_of true b Stop post = inl refl
left_of true b Unregister post = inl refl
left_of false true (Register x) post = inr refl
left_of false true Start post = inr (inl refl)
left_of false true Stop post = inr refl
left_of false true Unregister post = inr refl
left_of false false (Register x) post = inr refl
left_of false false Start post = inr (inr refl)
left_of false false Stop post = inr refl
left_of false false Unregister post = inr refl

-- a post that changes, by what it changes to
changes : (side : Side) (old new : PortState) (post : Post) (P : Post → Type 0) → new.post ≡ put side post old.post → new.kept ≡ old.kept → P post → ChangesPost side old new P
changes side old new post P is kept holds =
    let here : at side new.post ≡ post = ap (at side) is ∙ at-put_same side post old.post in
    record {
      here = rw here holds;
      there = ap (at (other side)) is ∙ at-put_other side post old.post;
      kept = kept;
    }

-- a post that stays
stays : (side : Side) (old new : PortState) → new.post ≡ put side (at side old.post) old.post → new.kept ≡ old.kept → SameMachine old new
stays side old new is kept = record { post = is ∙ put-at side old.post; kept = kept }

-- a call that changes a post, by its fault
pub call_step : (fault : Option ℕ) (call : PortCall) (side : Side) (old new : PortState) → new.post ≡ put side (post_then fault call (at side old.post)) old.post → new.kept ≡ old.kept → PortStep call side old new (call_answer fault call (at side old.post))
call_step None call side old new is kept =
    let post : Post = at side old.post in
    elim (cases_Bool (is_ready_for call post)) [
      | inl ready ↦ rw ready (ready, changes side old new (post_after call post) (λ p. p ≡ post_after call post) (rw ready at is) kept refl)
      | inr unready ↦ rw unready (unready, refl, stays side old new (rw unready at is) kept)
    ]
call_step (Some leaves) call side old new is kept =
    let post : Post = at side old.post in
    elim (cases_Bool (is_ready_for call post)) [
      | inl ready ↦ rw ready (changes side old new (post_left leaves call post) (Left call post) (rw ready at is) kept (left_of (leaves == 0) (leaves == 1) call post))
      | inr unready ↦ rw unready (stays side old new (rw unready at is) kept)
    ]
