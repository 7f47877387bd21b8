-- Lists of numbers in strictly ascending order, and which numbers they have.
use Rattle.std.proofs.Common.{◌≡◌, ℕ, suc, zero, ◌+◌, ◌<◌, inl, inr, true, false, List, length, get_or, take, refl, sym, ◌∙◌, ap, arith, length-take, get_or-take, add-one, ◌==◌, ◌||◌}
use Rattle.std.proofs.lemmas.Bool.{cases_eq, cases_Bool, eqb-true, eq-eqb, cases_order}
use Rattle.std.proofs.lemmas.List.Folds.{Any-from_list_any, list_any_at, list_any_more}
use Rattle.std.proofs.lemmas.Grind.{get_or_default_zero}
use Rattle.std.specs.List.{Any}
use Rattle.std.specs.List.Sorted.{IsStrictlyIncreasing}
use Rattle.dr_base.specs.Lists.{has}

-- an earlier element is below a later one
pub mono : (xs : List ℕ) → IsStrictlyIncreasing xs → (k i : ℕ) → k < i → i < length xs → get_or xs k 0 < get_or xs i 0
mono xs rises k zero lt l = absurd (omega arith)
mono xs rises k (suc i) lt l =
    let step : get_or xs i 0 < get_or xs (suc i) 0 = rw add-one at (rises i (omega arith)) in
    elim (cases_eq k i) [
      | inl e ↦ rw e step
      | inr n ↦ let up : get_or xs k 0 < get_or xs i 0 = mono xs rises k i (omega arith) (omega arith) in omega arith
    ]

-- a number of the list has a place
pub place_of : (xs : List ℕ) (v : ℕ) → has xs v ≡ true → (k : ℕ) × (k < length xs) × (get_or xs k 0 ≡ v)
place_of xs v h =
    let any : Any (λ x. (x == v) ≡ true) xs = Any-from_list_any (λ x. x == v) xs h in
    let at : get_or xs any.0 0 ≡ any.1 = sym (get_or_default_zero xs any.0 any.1 any.2) ∙ any.3 in
    (any.0, any.2, at ∙ eqb-true any.1 v any.4)

-- the element at a place isn't among the earlier ones
pub not_yet : (xs : List ℕ) → IsStrictlyIncreasing xs → (i : ℕ) → i < length xs → has (take i xs) (get_or xs i 0) ≡ false
not_yet xs rises i l =
    elim (cases_Bool (has (take i xs) (get_or xs i 0))) [
      | inl h ↦
          let p : (k : ℕ) × (k < length (take i xs)) × (get_or (take i xs) k 0 ≡ get_or xs i 0) = place_of (take i xs) (get_or xs i 0) h in
          let k_below : p.0 < i = omega (arith, p.1, length-take i xs) in
          let same : get_or xs p.0 0 ≡ get_or xs i 0 = sym (get_or-take i xs p.0 0 k_below) ∙ p.2 in
          absurd (omega (arith, mono xs rises p.0 i k_below l, same))
      | inr h ↦ h
    ]

-- what is below the element at a place is among the earlier ones
pub listed_before : (xs : List ℕ) → IsStrictlyIncreasing xs → (i j : ℕ) → i < length xs → has xs j ≡ true → j < get_or xs i 0 → has (take i xs) j ≡ true
listed_before xs rises i j l h below =
    let p : (k : ℕ) × (k < length xs) × (get_or xs k 0 ≡ j) = place_of xs j h in
    let k_below : p.0 < i = elim (cases_order p.0 i) [
      | inl e ↦ absurd (let e' : get_or xs p.0 0 ≡ get_or xs i 0 = ap (λ n. get_or xs n 0) e in omega (arith, e', p.2))
      | inr o ↦ elim o [ inl lt ↦ lt | inr gt ↦ absurd (omega (arith, mono xs rises i p.0 gt p.1, p.2)) ]
    ] in
    list_any_at (λ x. x == j) (take i xs) p.0 0 (omega (arith, length-take i xs)) (eq-eqb _ _ (get_or-take i xs p.0 0 k_below ∙ p.2))

-- one more element of the list
pub has_more : (xs : List ℕ) (n v : ℕ) → n < length xs → has (take (n + 1) xs) v ≡ (has (take n xs) v || (get_or xs n 0 == v))
has_more xs n v l = list_any_more (λ x. x == v) xs n 0 l

-- the element at a place is in the list
pub has_at : (xs : List ℕ) (n : ℕ) → n < length xs → has xs (get_or xs n 0) ≡ true
has_at xs n l = list_any_at (λ x. x == get_or xs n 0) xs n 0 l (eq-eqb _ _ refl)

-- a number of the list is below a bound that each element is below
pub listed_below : (xs : List ℕ) (n : ℕ) → ((j : ℕ) → j < length xs → get_or xs j 0 < n) → (v : ℕ) → has xs v ≡ true → v < n
listed_below xs n below v h = let p : (k : ℕ) × (k < length xs) × (get_or xs k 0 ≡ v) = place_of xs v h in omega (arith, below p.0 p.1, p.2)
