-- The parts of a step, one call each, and what each leaves.
use Rattle.std.specs.Prelude.{ℕ, ◌≡◌, ◌⊎◌, false, [], ◌∷◌, Option, Result, Ok, Err}
use Rattle.dr_base.specs.declared.side.Side.{Side}
use Rattle.dr_base.specs.Sides.{other}
use Rattle.dr_outside.specs.declared.machine.Placed.{Placed}
use Rattle.dr_outside.specs.declared.machine.Post.{Post}
use Rattle.dr_outside.specs.declared.machine.Post.TheVariants.{Placeholder, Off, On, Ready}
use Rattle.dr_outside.specs.BySide.{at}
use Rattle.dr_outside.specs.Machines.{PortState, ChangesPost}
use Rattle.dr_meaning.specs.InOrder.{is_ready}
use Rattle.dr_wave.specs.declared.slot.StartWant.{StartWant}
use Rattle.dr_wave.specs.declared.slot.Found.{Found}
use Rattle.dr_wave.specs.Commands.{commands_from, RanAll, AreCodes}
use Rattle.dr_wave.specs.Steps.{placed_of, before_power}

-- a post, registered off with this placement where it was a placeholder
abbrev pub registered : Placed → Post → Post
registered wanted Placeholder = Off wanted
registered wanted (Off placed) = Off placed
registered wanted (On placed) = On placed
registered wanted (Ready placed) = Ready placed

-- a part that makes this of the post at a side: it is done, or it failed and left the post before or after it
abbrev pub Makes : (Post → Post) → Side → PortState → PortState → Result (Unit {0}) Found → Type 0
Makes make side old new (Ok _) = ChangesPost side old new (λ post. post ≡ make (at side old.post))
Makes make side old new (Err end) = (end ≡ Found.Failed side) × ChangesPost side old new (λ post. (post ≡ at side old.post) ⊎ (post ≡ make (at side old.post)))

-- the machine was turned on; or it wasn't ready when it was found, and that failed and left it off, on or ready
abbrev pub TurnsOn : StartWant → (found : Post) → PortState → PortState → Result (Unit {0}) Found → Type 0
TurnsOn want found old new (Ok _) = ChangesPost want.side old new (λ post. post ≡ Ready (placed_of want))
TurnsOn want found old new (Err end) = (end ≡ Found.Failed want.side) × (is_ready found ≡ false)
    × ChangesPost want.side old new (λ post. (post ≡ Off (placed_of want)) ⊎ ((post ≡ On (placed_of want)) ⊎ (post ≡ Ready (placed_of want))))

-- the machine is ready, and its commands before power-on have these codes
pub record PoweredOn (want : StartWant) (old new : PortState) (codes : Option ℕ × Option ℕ) : Type 0 where
  pub ready : at want.side new.post ≡ Ready (placed_of want)
  pub there : at (other want.side) new.post ≡ at (other want.side) old.post
  pub ran : RanAll want.side (commands_from want.root 0 (before_power want)) old.kept new.kept
  pub told : AreCodes new.kept want.root 0 (before_power want) (codes.0 ∷ codes.1 ∷ [])
