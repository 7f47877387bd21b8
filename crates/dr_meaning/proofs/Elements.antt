-- Elements of lists, and what holds of each.
use Rattle.std.specs.Prelude.{◌≡◌, ℕ, zero, suc, ◌==◌, ◌⊎◌, Bool, true, false, ◌||◌, List, [], ◌∷◌, Contains, cond, filter}
use Rattle.std.proofs.Common.{refl, ap, ◌∙◌, inl, inr, subst, arith}
use Rattle.std.proofs.lemmas.Bool.{eq-eqb, eqb-true, ne_eqb, cases_eq}
use Rattle.dr_base.specs.Lists.{has}
use Rattle.dr_meaning.proofs.Lists.{Each, Some_of}

-- an element is some element
pub some_of-contains : {X : Type 0} (xs : List X) (x : X) → Contains xs x → Some_of (λ y. y ≡ x) xs
some_of-contains [] x (k, l, e) = absurd (omega arith)
some_of-contains (y ∷ ys) x (zero, l, e) = inl e
some_of-contains (y ∷ ys) x (suc k, l, e) = inr (some_of-contains ys x (k, omega arith, e))

-- what holds of each element
pub each-contains : {X : Type 0} (P : X → Type 0) (xs : List X) → ((x : X) → Contains xs x → P x) → Each P xs
each-contains P [] h = tt
each-contains P (y ∷ ys) h = (h y (0, omega arith, refl), each-contains P ys (λ x c. h x (suc c.0, omega (arith, c.1), c.2)))

-- a number of a list is an element of it
pub contains-has : (xs : List ℕ) (n : ℕ) → has xs n ≡ true → Contains xs n
contains-has [] n e = absurd cc
contains-has (x ∷ xs) n e = go (x == n) refl (contains-has xs n) e
  where
    go : (b : Bool) → (x == n) ≡ b → (has xs n ≡ true → Contains xs n) → b || has xs n ≡ true → Contains (x ∷ xs) n
    go true is rest h = (0, omega arith, eqb-true x n is)
    go false is rest h = let later = rest h in (suc later.0, omega (arith, later.1), later.2)

-- and an element is one of its numbers
pub has-contains : (xs : List ℕ) (n : ℕ) → Contains xs n → has xs n ≡ true
has-contains [] n (k, l, e) = absurd (omega arith)
has-contains (x ∷ xs) n (zero, l, e) = rw (eq-eqb x n e) refl
has-contains (x ∷ xs) n (suc k, l, e) = go (x == n) (has-contains xs n (k, omega arith, e))
  where
    go : (b : Bool) → has xs n ≡ true → b || has xs n ≡ true
    go true h = refl
    go false h = h

-- what holds of each holds of an element
pub at-contains : {X : Type 0} (P : X → Type 0) (xs : List X) (x : X) → Each P xs → Contains xs x → P x
at-contains P [] x h (k, l, e) = absurd (omega arith)
at-contains P (y ∷ ys) x h (zero, l, e) = subst P e h.0
at-contains P (y ∷ ys) x h (suc k, l, e) = at-contains P ys x h.1 (k, omega arith, e)

-- an element that passes is kept
pub contains-filter : {X : Type 0} (p : X → Bool) (xs : List X) (x : X) → Contains xs x → p x ≡ true → Contains (filter p xs) x
contains-filter p [] x (k, l, e) h = absurd (omega arith)
contains-filter p (y ∷ ys) x (zero, l, e) h = let passes : p y ≡ true = ap p e ∙ h in rw passes (0, omega arith, e)
contains-filter {X} p (y ∷ ys) x (suc k, l, e) h = go (p y) (contains-filter p ys x (k, omega arith, e) h)
  where
    go : (b : Bool) → Contains (filter p ys) x → Contains (cond b (y ∷ filter p ys) (filter p ys)) x
    go true c = (suc c.0, omega (arith, c.1), c.2)
    go false c = c

-- what holds of each number of a list holds of one that it has
pub pick : (P : ℕ → Type 0) (groups : List ℕ) (g : ℕ) → Each P groups → has groups g ≡ true → P g
pick P [] g h e = absurd cc
pick P (x ∷ groups) g h e = go (cases_eq x g) (pick P groups g h.1)
  where
    go : (x ≡ g) ⊎ (x ≡ g → ⊥) → (has groups g ≡ true → P g) → P g
    go (inl same) rest = subst P same h.0
    go (inr ne) rest = rest (rw (ne_eqb x g ne) at e)
