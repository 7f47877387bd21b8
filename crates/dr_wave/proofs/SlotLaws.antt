-- Slots by their places, while one after another takes its step.
use Rattle.std.specs.Prelude.{option_map, unwrap_or, slice_get}
use Rattle.std.proofs.Common.{◌≡◌, ◌≢◌, ℕ, suc, zero, ◌+◌, ◌<◌, ◌∙◌, inl, inr, Bool, true, false, ◌||◌, ◌==◌, List, [], ◌∷◌, length, take, map, get_or, set, refl, sym, ap, arith, get_or-set_same}
use Rattle.std.specs.Prelude.{nat_lt}
use Rattle.std.specs.List.Sorted.{IsStrictlyIncreasing}
use Rattle.std.proofs.lemmas.Bool.{cases_eq, eq-eqb, ne_eqb, le-ltb, lt-ltb}
use Rattle.std.proofs.lemmas.List.{map-set, length-map, get_or-map, set-get_or}
use Rattle.std.proofs.lemmas.Option.{unwrap_or-slice_get, slice_get-map}
use Rattle.dr_base.specs.Lists.{has}
use Rattle.dr_outside.specs.Machines.{PortState, no_machine}
use Rattle.dr_outside.proofs.MachineAt.{machine_at_is, machine_at-set_same}
use Rattle.dr_outside.proofs.Listed.{not_yet, has_more}
use Rattle.dr_wave.specs.declared.slot.Slot.{Slot}
use Rattle.dr_wave.specs.declared.slot.Want.{Want}
use Rattle.dr_wave.specs.declared.slot.Found.{Found}
use Rattle.dr_wave.specs.Steps.{Step}
use Rattle.dr_wave.specs.Waves.{want_at, found_at, InPlace, StepsAt}

-- One slot changes -----------------------------------------------------------------------------------------

slice_get-set_other : {X : Type 0} (xs : List X) (i : ℕ) (x : X) (j : ℕ) → j ≢ i → slice_get (set xs i x) j ≡ slice_get xs j
slice_get-set_other [] i x j ne = refl
slice_get-set_other (y ∷ xs) zero x zero ne = absurd (ne refl)
slice_get-set_other (y ∷ xs) zero x (suc j) ne = refl
slice_get-set_other (y ∷ xs) (suc i) x zero ne = refl
slice_get-set_other (y ∷ xs) (suc i) x (suc j) ne = slice_get-set_other xs i x j (λ e. ne (ap suc e))

module _ {P : Type 0} (slots : List (Slot P)) (i : ℕ) (d now : Slot P) (l : i < length slots) where
  pub stepped : (tells : Type 0) (state : P → PortState) (want : Want) → Step tells want (state (get_or slots i d).port) (state now.port) now.found → StepsAt tells state want slots (set slots i now) i
  stepped tells state want step =
      let same : found_at (set slots i now) i ≡ now.found = rw (map-set (λ (slot : Slot P). slot.found) slots i now) (get_or-set_same (map (λ (slot : Slot P). slot.found) slots) i now.found Found.Nothing (omega (arith, length-map slots (λ (slot : Slot P). slot.found), l))) in
      rw (machine_at-set_same (λ (slot : Slot P). state slot.port) slots i now l, ← machine_at_is (λ (slot : Slot P). state slot.port) slots i d l, same) step

  pub others : (j : ℕ) → j ≢ i → slice_get (set slots i now) j ≡ slice_get slots j
  others j ne = slice_get-set_other slots i now j ne

  same_field : {X : Type 0} (f : Slot P → X) → f now ≡ f (get_or slots i d) → map f (set slots i now) ≡ map f slots
  same_field f e =
      map-set f slots i now ∙ ap (λ x. set (map f slots) i x) (e ∙ sym (get_or-map f slots i d (f d) l)) ∙ set-get_or (map f slots) i (f d)

  pub in_place : now.machine ≡ (get_or slots i d).machine → now.want ≡ (get_or slots i d).want → InPlace slots (set slots i now)
  in_place machine want = record { machines = same_field (λ slot. slot.machine) machine; wants = same_field (λ slot. slot.want) want }

-- what is wanted of the slot at a place is what was
pub want_stays : {P : Type 0} (initial slots : List (Slot P)) → InPlace initial slots → (i : ℕ) (d : Slot P) → i < length slots → (get_or slots i d).want ≡ want_at initial i
want_stays initial slots stands i d l = sym (get_or-map (λ slot. slot.want) slots i d Want.Nothing l) ∙ ap (λ wants. get_or wants i Want.Nothing) stands.wants

-- One after another ------------------------------------------------------------------------------------------

-- slots that are alike at a place are so in each field
pub by_place : {P X : Type 0} (f : Slot P → X) (d : X) (was now : List (Slot P)) (i : ℕ) → slice_get now i ≡ slice_get was i → get_or (map f now) i d ≡ get_or (map f was) i d
by_place f d was now i e =
    sym (unwrap_or-slice_get (map f now) i d) ∙ ap (λ o. unwrap_or o d) (slice_get-map f now i ∙ ap (option_map f) e ∙ sym (slice_get-map f was i)) ∙ unwrap_or-slice_get (map f was) i d

-- the slots that are done took these steps, and no other one was touched
pub record SteppedBy {P : Type 0} (tells : Type 0) (state : P → PortState) (done : ℕ → Bool) (want : ℕ → Want) (initial now : List (Slot P)) : Type 0 where
  pub steps : (i : ℕ) → done i ≡ true → StepsAt tells state (want i) initial now i
  pub others : (i : ℕ) → done i ≡ false → slice_get now i ≡ slice_get initial i
  pub in_place : InPlace initial now

pub none_stepped : {P : Type 0} (tells : Type 0) (state : P → PortState) (done : ℕ → Bool) (want : ℕ → Want) (initial : List (Slot P)) → ((i : ℕ) → done i ≡ false) → SteppedBy tells state done want initial initial
none_stepped tells state done want initial none = record {
  steps = λ i is. absurd (let wrong : false ≡ true = sym (none i) ∙ is in cc wrong);
  others = λ i isnt. refl;
  in_place = record { machines = refl; wants = refl };
}

module _ {P : Type 0} (tells : Type 0) (state : P → PortState) (done then : ℕ → Bool) (want : ℕ → Want) (initial before now : List (Slot P)) (i : ℕ)
    (was : done i ≡ false) (is : then i ≡ true) (same : (j : ℕ) → j ≢ i → then j ≡ done j) (s : SteppedBy tells state done want initial before) where
  -- one more takes its step
  pub step_more : StepsAt tells state (want i) before now i → ((j : ℕ) → j ≢ i → slice_get now j ≡ slice_get before j) → InPlace before now → SteppedBy tells state then want initial now
  step_more step alone stands = record {
    steps = λ j at. elim (cases_eq j i) [
      | inl e ↦ rw e (rw (by_place (λ slot. state slot.port) no_machine initial before i (s.others i was)) at step)
      | inr ne ↦
          rw (by_place (λ slot. state slot.port) no_machine before now j (alone j ne), by_place (λ slot. slot.found) Found.Nothing before now j (alone j ne)) (s.steps j (sym (same j ne) ∙ at))
    ];
    others = λ j at. elim (cases_eq j i) [
      | inl e ↦ absurd (let wrong : true ≡ false = sym is ∙ ap then (sym e) ∙ at in cc wrong)
      | inr ne ↦ alone j ne ∙ s.others j (sym (same j ne) ∙ at)
    ];
    in_place = record { machines = stands.machines ∙ s.in_place.machines; wants = stands.wants ∙ s.in_place.wants };
  }

-- Picks ------------------------------------------------------------------------------------------------------

module _ (picks : List ℕ) (ascending : IsStrictlyIncreasing picks) (n : ℕ) (l : n < length picks) where
  pub pick_not_yet : has (take n picks) (get_or picks n 0) ≡ false
  pick_not_yet = not_yet picks ascending n l

  pub pick_now : has (take (n + 1) picks) (get_or picks n 0) ≡ true
  pick_now = rw (has_more picks n (get_or picks n 0) l, pick_not_yet) (eq-eqb _ _ refl)

  pub pick_others : (j : ℕ) → j ≢ get_or picks n 0 → has (take (n + 1) picks) j ≡ has (take n picks) j
  pick_others j ne = rw (has_more picks n j l) (unpicked (has (take n picks) j) (ne_eqb _ _ (λ e. ne (sym e))))
    where
      unpicked : (b : Bool) → (get_or picks n 0 == j) ≡ false → (b || (get_or picks n 0 == j)) ≡ b
      unpicked true e = refl
      unpicked false e = e

module _ (n : ℕ) where
  pub place_not_yet : nat_lt n n ≡ false
  place_not_yet = le-ltb n n (omega arith)

  pub place_now : nat_lt n (n + 1) ≡ true
  place_now = lt-ltb n (n + 1) (omega arith)

  pub place_others : (j : ℕ) → j ≢ n → nat_lt j (n + 1) ≡ nat_lt j n
  place_others j ne = grind (arith, le-ltb, lt-ltb)
