-- Elements that pass a test, and lists of which no two elements have one key.
use Rattle.std.proofs.Common.{◌≡◌, ◌⊎◌, ◌∙◌, ℕ, Bool, true, false, List, [], ◌∷◌, map, filter, bytes_eq, Some, refl, sym, ap, subst, inl, inr, arith}
use Rattle.std.specs.List.{Contains, AllByRecursion, IsDistinct, find}
use Rattle.std.proofs.lemmas.Bool.{both_ways, cases_Bool}
use Rattle.std.proofs.lemmas.List.{get_or-map, length-map}
use Rattle.std.proofs.lemmas.List.Elements.{All-contains, All-contains_itself, All-filter, All-from_recursion, Contains-append_left, Contains-append_right, Contains-append_cases, Contains-push, Contains-push_cases}
use Rattle.std.proofs.lemmas.Map.Keys.{IsDistinct-head, IsDistinct-tail}
use Rattle.std.proofs.lemmas.Slice.Eq.{bytes_eq-Decides}

pub contains_none : {X : Type 0} (x : X) → Contains [] x → ⊥
contains_none x h = omega (arith, h.1)

pub contains_head : {X : Type 0} (x : X) (xs : List X) → Contains (x ∷ xs) x
contains_head x xs = Contains-append_left (x ∷ []) xs x (Contains-push [] x)

pub contains_cases : {X : Type 0} (x : X) (xs : List X) (y : X) → Contains (x ∷ xs) y → (x ≡ y) ⊎ Contains xs y
contains_cases x xs y h = elim (Contains-append_cases (x ∷ []) xs y h) [
  | inl first ↦ elim (Contains-push_cases [] x y first) [ inl none ↦ absurd (contains_none y none) | inr same ↦ inl same ]
  | inr later ↦ inr later
]

-- where some element passes, a search finds one that does
pub find_passes : {X : Type 0} (p : X → Bool) (xs : List X) (y : X) → Contains xs y → p y ≡ true → (z : X) × (find p xs ≡ Some z) × Contains xs z × (p z ≡ true)
find_passes p [] y h passes = absurd (contains_none y h)
find_passes p (x ∷ xs) y h passes = elim (cases_Bool (p x)) [
  | inl here ↦ (x, rw here refl, contains_head x xs, here)
  | inr not_here ↦ elim (contains_cases x xs y h) [
    | inl same ↦ absurd (both_ways (p x) not_here (ap p same ∙ passes))
    | inr later ↦
        let rest = find_passes p xs y later passes in
        (rest.0, rw not_here rest.1, Contains-append_right (x ∷ []) xs rest.0 rest.2, rest.3)
  ]
]

pub filter_keeps : {X : Type 0} (p : X → Bool) (xs : List X) (y : X) → Contains xs y → p y ≡ true → Contains (filter p xs) y
filter_keeps p [] y h passes = absurd (contains_none y h)
filter_keeps p (x ∷ xs) y h passes = elim (cases_Bool (p x)) [
  | inl here ↦ elim (contains_cases x xs y h) [
    | inl same ↦ rw here (subst (Contains (x ∷ filter p xs)) same (contains_head x (filter p xs)))
    | inr later ↦ rw here (Contains-append_right (x ∷ []) (filter p xs) y (filter_keeps p xs y later passes))
  ]
  | inr not_here ↦ elim (contains_cases x xs y h) [
    | inl same ↦ absurd (both_ways (p x) not_here (ap p same ∙ passes))
    | inr later ↦ rw not_here (filter_keeps p xs y later passes)
  ]
]

pub filter_within : {X : Type 0} (p : X → Bool) (xs : List X) (y : X) → Contains (filter p xs) y → Contains xs y
filter_within p xs y h = All-contains (Contains xs) (filter p xs) y (All-filter p (Contains xs) xs (All-contains_itself xs)) h

contains_mapped : {X Y : Type 0} (f : X → Y) (xs : List X) (x : X) → Contains xs x → Contains (map f xs) (f x)
contains_mapped f xs x h = (h.0, omega (arith, h.1, length-map xs f), get_or-map f xs h.0 x (f x) h.1 ∙ ap f h.2)

-- two elements with one key are one
pub one_of_a_key : {X : Type 0} (key : X → List ℕ) (xs : List X) (a b : X) → IsDistinct bytes_eq (map key xs) → Contains xs a → Contains xs b → key a ≡ key b → a ≡ b
one_of_a_key key [] a b apart in_a in_b same = absurd (contains_none a in_a)
one_of_a_key key (x ∷ xs) a b apart in_a in_b same =
    let others = IsDistinct-head bytes_eq (key x) (map key xs) apart in
    elim (contains_cases x xs a in_a) [
      | inl first_a ↦ elim (contains_cases x xs b in_b) [
        | inl first_b ↦ sym first_a ∙ first_b
        | inr later_b ↦ absurd (later key x xs b others later_b (ap key first_a ∙ same))
      ]
      | inr later_a ↦ elim (contains_cases x xs b in_b) [
        | inl first_b ↦ absurd (later key x xs a others later_a (ap key first_b ∙ sym same))
        | inr later_b ↦ one_of_a_key key xs a b (IsDistinct-tail bytes_eq (key x) (map key xs) apart) later_a later_b same
      ]
    ]
  where
    later : {X : Type 0} (key : X → List ℕ) (x : X) (xs : List X) (y : X) → AllByRecursion (λ k. bytes_eq (key x) k ≡ false) (map key xs) → Contains xs y → key x ≡ key y → ⊥
    later key x xs y others in_y same =
        let differs = All-contains (λ k. bytes_eq (key x) k ≡ false) (map key xs) (key y) (All-from_recursion (λ k. bytes_eq (key x) k ≡ false) (map key xs) others) (contains_mapped key xs y in_y) in
        both_ways (bytes_eq (key x) (key y)) differs ((bytes_eq-Decides (key x) (key y)).1 same)
