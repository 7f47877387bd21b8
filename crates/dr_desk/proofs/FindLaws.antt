-- A search of a list from its front.
use Rattle.std.proofs.Common.{◌≡◌, refl, ℕ, zero, suc, ◌+◌, Bool, true, false, List, [], ◌∷◌, take}
use Rattle.std.specs.Prelude.{find, cond, Some, None, slice_get}
use native.Mathlib.Numerals.{unary_clauses}

module _ {X : Type 0} (p : X → Bool) where
  -- none of the first passes, and the next does
  pub found_next : (xs : List X) (i : ℕ) (x : X) → find p (take i xs) ≡ None → slice_get xs i ≡ Some x → p x ≡ true → find p xs ≡ Some x
  found_next [] i x none at is = cc at
  found_next (y ∷ ys) zero x none at is = (let same : y ≡ x = cc at in rw (same, is) refl)
  found_next (y ∷ ys) (suc i) x none at is = go (p y) refl (λ later. found_next ys i x later at is)
    where
      go : (b : Bool) → p y ≡ b → (find p (take i ys) ≡ None → find p ys ≡ Some x) → cond (p y) (Some y) (find p ys) ≡ Some x
      go true e rest = (let some : Some y ≡ None = rw e at none in cc some)
      go false e rest = rw e (rest (rw e at none))

  -- none of the first passes, nor does the next
  pub none_next : (xs : List X) (i : ℕ) (x : X) → find p (take i xs) ≡ None → slice_get xs i ≡ Some x → p x ≡ false → find p (take (i + 1) xs) ≡ None
  none_next xs i x none at is = simp unary_clauses (none_after xs i x none at is)
    where
      none_after : (xs : List X) (i : ℕ) (x : X) → find p (take i xs) ≡ None → slice_get xs i ≡ Some x → p x ≡ false → find p (take (suc i) xs) ≡ None
      none_after [] i x none at is = refl
      none_after (y ∷ ys) zero x none at is = (let same : y ≡ x = cc at in rw (same, is) refl)
      none_after (y ∷ ys) (suc i) x none at is = go (p y) refl (λ later. none_after ys i x later at is)
        where
          go : (b : Bool) → p y ≡ b → (find p (take i ys) ≡ None → find p (take (suc i) ys) ≡ None) → cond (p y) (Some y) (find p (take (suc i) ys)) ≡ None
          go true e rest = (let some : Some y ≡ None = rw e at none in cc some)
          go false e rest = rw e (rest (rw e at none))
