-- Slots by their places.
use Rattle.std.specs.Prelude.{ℕ, ◌≡◌, List, map, slice_index_or}
use Rattle.dr_outside.specs.Machines.{PortState, machine_at}
use Rattle.dr_wave.specs.declared.slot.Slot.{Slot}
use Rattle.dr_wave.specs.declared.slot.Want.{Want}
use Rattle.dr_wave.specs.declared.slot.Found.{Found}
use Rattle.dr_wave.specs.Steps.{Step}

-- the machine in the slot at a place, by the ports' states
abbrev pub slot_state : {P : Type 0} → (P → PortState) → List (Slot P) → ℕ → PortState
slot_state state slots i = machine_at (λ slot. state slot.port) slots i

-- what is wanted of it
abbrev pub want_at : {P : Type 0} → List (Slot P) → ℕ → Want
want_at slots i = slice_index_or (map (λ slot. slot.want) slots) i Want.Nothing

-- what its step found
abbrev pub found_at : {P : Type 0} → List (Slot P) → ℕ → Found
found_at slots i = slice_index_or (map (λ slot. slot.found) slots) i Found.Nothing

-- each slot stands in its place, with its machine's number and what is wanted of it
pub record InPlace {P : Type 0} (old new : List (Slot P)) : Type 0 where
  pub machines : map (λ slot. slot.machine) new ≡ map (λ slot. slot.machine) old
  pub wants : map (λ slot. slot.want) new ≡ map (λ slot. slot.want) old

-- the slot at a place took this step
abbrev pub StepsAt : {P : Type 0} → Type 0 → (P → PortState) → Want → List (Slot P) → List (Slot P) → ℕ → Type 0
StepsAt tells state want old new i = Step tells want (slot_state state old i) (slot_state state new i) (found_at new i)
