-- Of two ascending lists, one that has only elements of the other, and as many, is the other.
use Rattle.std.specs.Prelude.{◌≡◌, ℕ, suc, ◌+◌, ◌<◌, ◌≤◌, ◌==◌, ◌⊎◌, ◌||◌, Bool, true, false, List, [], ◌∷◌, length}
use Rattle.std.specs.List.{slice_index}
use Rattle.std.specs.List.Sorted.{IsStrictlyIncreasing}
use native.Mathlib.Numerals.{unary_clauses}
use Rattle.std.proofs.Common.{refl, sym, inl, inr, arith}
use Rattle.std.proofs.lemmas.Bool.{eq-eqb, ne_eqb, cases_eq}
use Rattle.dr_base.specs.Lists.{has}

pub rest_ascends : (x : ℕ) (xs : List ℕ) → IsStrictlyIncreasing (x ∷ xs) → IsStrictlyIncreasing xs
rest_ascends x xs h = λ k within. let later : slice_index (x ∷ xs) (k + 1) < slice_index (x ∷ xs) (k + 1 + 1) = h (k + 1) (omega (arith, within)) in let turned : slice_index xs k < slice_index xs (suc k) = simp unary_clauses at later in simp unary_clauses turned

has_head : (x : ℕ) (xs : List ℕ) → has (x ∷ xs) x ≡ true
has_head x xs = let own : x == x ≡ true = eq-eqb x x refl in rw own refl

has_later : (x y : ℕ) (xs : List ℕ) → has xs y ≡ true → has (x ∷ xs) y ≡ true
has_later x y xs e = go (x == y)
  where
    go : (b : Bool) → b || has xs y ≡ true
    go true = refl
    go false = e

has_other : (x y : ℕ) (xs : List ℕ) → (x ≡ y → ⊥) → has (x ∷ xs) y ≡ true → has xs y ≡ true
has_other x y xs ne e = rw (ne_eqb x y ne) at e

-- the first is below all later ones
first_least : (x : ℕ) (xs : List ℕ) → IsStrictlyIncreasing (x ∷ xs) → (y : ℕ) → has xs y ≡ true → x < y
first_least x [] h y e = absurd cc
first_least x (z ∷ zs) h y e = go (cases_eq z y) (first_least z zs (rest_ascends x (z ∷ zs) h) y)
  where
    next : x < z
    next = h 0 (omega arith)

    go : (z ≡ y) ⊎ (z ≡ y → ⊥) → (has zs y ≡ true → z < y) → x < y
    go (inl same) rest = omega (arith, next, same)
    go (inr ne) rest = let above : z < y = rest (has_other z y zs ne e) in omega (arith, next, above)

-- each element of the first is one of the second
abbrev pub IsAmong : List ℕ → List ℕ → Type 0
IsAmong xs ys = (x : ℕ) → has xs x ≡ true → has ys x ≡ true

-- behind equal firsts
among_rest : (x : ℕ) (xs ys : List ℕ) → IsStrictlyIncreasing (x ∷ xs) → IsAmong (x ∷ xs) (x ∷ ys) → IsAmong xs ys
among_rest x xs ys h among z e =
    let above : x < z = first_least x xs h z e in
    has_other x z ys (λ same. omega (arith, above, same)) (among z (has_later x z xs e))

-- behind a first that is below
among_behind : (x y : ℕ) (xs ys : List ℕ) → IsStrictlyIncreasing (x ∷ xs) → (x ≡ y → ⊥) → IsStrictlyIncreasing (y ∷ ys) → IsAmong (x ∷ xs) (y ∷ ys) → IsAmong (x ∷ xs) ys
among_behind x y xs ys h ne k among z e = has_other y z ys (λ same. apart same) (among z e)
  where
    over : y < x
    over = first_least y ys k x (has_other y x ys (λ same. ne (sym same)) (among x (has_head x xs)))

    at_least : (x ≡ z) ⊎ (x ≡ z → ⊥) → x ≤ z
    at_least (inl same) = omega (arith, same)
    at_least (inr other) = let above : x < z = first_least x xs h z (has_other x z xs other e) in omega (arith, above)

    apart : y ≡ z → ⊥
    apart same = let below : x ≤ z = at_least (cases_eq x z) in omega (arith, over, below, same)

pub fewer : (xs ys : List ℕ) → IsStrictlyIncreasing xs → IsStrictlyIncreasing ys → IsAmong xs ys → length xs ≤ length ys
fewer [] ys h k among = omega arith
fewer (x ∷ xs) [] h k among = absurd (let wrong : false ≡ true = among x (has_head x xs) in cc)
fewer (x ∷ xs) (y ∷ ys) h k among = go (cases_eq x y) (fewer xs ys (rest_ascends x xs h) (rest_ascends y ys k)) (fewer (x ∷ xs) ys h (rest_ascends y ys k))
  where
    go : (x ≡ y) ⊎ (x ≡ y → ⊥) → (IsAmong xs ys → length xs ≤ length ys) → (IsAmong (x ∷ xs) ys → length (x ∷ xs) ≤ length ys) → length (x ∷ xs) ≤ length (y ∷ ys)
    go (inl same) rest behind =
        let same_first : IsAmong (x ∷ xs) (x ∷ ys) = rw (← same) at among in
        let le : length xs ≤ length ys = rest (among_rest x xs ys h same_first) in omega (arith, le)
    go (inr ne) rest behind = let le : length (x ∷ xs) ≤ length ys = behind (among_behind x y xs ys h ne k among) in omega (arith, le)

pub as_many : (xs ys : List ℕ) → IsStrictlyIncreasing xs → IsStrictlyIncreasing ys → IsAmong xs ys → length xs ≡ length ys → xs ≡ ys
as_many [] [] h k among e = refl
as_many [] (y ∷ ys) h k among e = absurd (omega (arith, e))
as_many (x ∷ xs) [] h k among e = absurd (omega (arith, e))
as_many (x ∷ xs) (y ∷ ys) h k among e = go (cases_eq x y) (as_many xs ys (rest_ascends x xs h) (rest_ascends y ys k))
  where
    go : (x ≡ y) ⊎ (x ≡ y → ⊥) → (IsAmong xs ys → length xs ≡ length ys → xs ≡ ys) → x ∷ xs ≡ y ∷ ys
    go (inl same) rest =
        let same_first : IsAmong (x ∷ xs) (x ∷ ys) = rw (← same) at among in
        let tails : xs ≡ ys = rest (among_rest x xs ys h same_first) (omega (arith, e)) in
        cc
    go (inr ne) rest =
        let le : length (x ∷ xs) ≤ length ys = fewer (x ∷ xs) ys h (rest_ascends y ys k) (among_behind x y xs ys h ne k among) in
        absurd (omega (arith, le, e))
