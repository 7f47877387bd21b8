-- Elements that pass a test.
use Rattle.std.specs.Prelude.{◌≡◌, ℕ, ◌<◌, ◌==◌, ◌||◌, ◌&&◌, Bool, true, false, List, [], ◌∷◌, Contains, length, filter}
use Rattle.std.specs.List.{list_any}
use Rattle.std.proofs.Common.{refl, sym, arith, subst}
use Rattle.std.proofs.lemmas.Bool.{eqb-true, eq-eqb}
use Rattle.dr_base.specs.Lists.{has}
use Rattle.dr_meaning.proofs.Elements.{contains-filter, has-contains}

pub both_true : (a b : Bool) → a ≡ true → b ≡ true → a && b ≡ true
both_true true b e f = f
both_true false b e f = e

module _ (p : ℕ → Bool) where
  -- where some are kept, one passes
  pub some_passes : (xs : List ℕ) → 0 < length (filter p xs) → (x : ℕ) × (p x ≡ true)
  some_passes [] some = absurd (omega (arith, some))
  some_passes (x ∷ xs) some = go (p x) refl (some_passes xs)
    where
      go : (b : Bool) → p x ≡ b → (0 < length (filter p xs) → (y : ℕ) × (p y ≡ true)) → (y : ℕ) × (p y ≡ true)
      go true e rest = (x, e)
      go false e rest = rest (rw e at some)

  kept_some : (ys : List ℕ) (x : ℕ) → has ys x ≡ true → 0 < length ys
  kept_some [] x e = absurd cc
  kept_some (y ∷ ys) x e = omega arith

  -- where one of the list passes, some are kept
  pub passes_some : (xs : List ℕ) (x : ℕ) → Contains xs x → p x ≡ true → 0 < length (filter p xs)
  passes_some xs x among passes = kept_some (filter p xs) x (has-contains (filter p xs) x (contains-filter p xs x among passes))

  -- one of the list that passes
  pub any_has : (xs : List ℕ) (x : ℕ) → has xs x ≡ true → p x ≡ true → list_any p xs ≡ true
  any_has [] x listed passes = absurd cc
  any_has (y ∷ xs) x listed passes = go (y == x) refl (any_has xs x)
    where
      right : (b : Bool) → list_any p xs ≡ true → b || list_any p xs ≡ true
      right true e = refl
      right false e = e

      go : (b : Bool) → y == x ≡ b → (has xs x ≡ true → p x ≡ true → list_any p xs ≡ true) → p y || list_any p xs ≡ true
      go true e rest = let same : y ≡ x = eqb-true y x e in let here : p y ≡ true = subst (λ z. p z ≡ true) (sym same) passes in rw here refl
      go false e rest = right (p y) (rest (rw e at listed) passes)

  pub any_found : (xs : List ℕ) → list_any p xs ≡ true → (x : ℕ) × (has xs x ≡ true) × (p x ≡ true)
  any_found [] any = absurd cc
  any_found (y ∷ xs) any = go (p y) refl (any_found xs)
    where
      later : (b : Bool) (x : ℕ) → has xs x ≡ true → b || has xs x ≡ true
      later true x e = refl
      later false x e = e

      go : (b : Bool) → p y ≡ b → (list_any p xs ≡ true → (x : ℕ) × (has xs x ≡ true) × (p x ≡ true)) → (x : ℕ) × (has (y ∷ xs) x ≡ true) × (p x ≡ true)
      go true e rest = (y, let own : y == y ≡ true = eq-eqb y y refl in rw own refl, e)
      go false e rest = let (x, listed, passes) = rest (rw e at any) in (x, later (y == x) x listed, passes)
