-- Lists that the program keeps oldest first, and the definitions newest first.
use Rattle.std.specs.Prelude.{◌≡◌, ℕ, ◌+◌, ◌<◌, Bool, true, false, ◌||◌, List, [], ◌∷◌, ◌++◌, map, reverse, length}
use Rattle.std.specs.List.{list_any}
use Rattle.std.proofs.Common.{refl, get_or, take}
use Rattle.std.proofs.lemmas.List.{reverse-append, map-append, take_more}
use Rattle.std.proofs.lemmas.List.Folds.{list_any-append}

module _ {X Y : Type 0} (f : X → Y) where
  -- one more at the end is the newest
  pub told_push : (xs : List X) (x : X) → reverse (map f (xs ++ x ∷ [])) ≡ f x ∷ reverse (map f xs)
  told_push xs x = rw (map-append f xs (x ∷ []), reverse-append (map f xs) (f x ∷ [])) refl

  -- one more, as at a step of a loop
  pub told_more : (xs : List X) (i : ℕ) (d : X) → i < length xs → reverse (map f (take (i + 1) xs)) ≡ f (get_or xs i d) ∷ reverse (map f (take i xs))
  told_more xs i d l = rw (take_more xs i d l) (told_push (take i xs) (get_or xs i d))

  -- whether some element passes a test
  pub any_told : (p : Y → Bool) (xs : List X) → list_any p (reverse (map f xs)) ≡ list_any (λ x. p (f x)) xs
  any_told p [] = refl
  any_told p (x ∷ xs) =
      rw (reverse-append (f x ∷ []) (map f xs), list_any-append p (reverse (map f xs)) (f x ∷ []), any_told p xs)
      (swapped (list_any (λ x. p (f x)) xs) (p (f x)))
    where
      swapped : (a b : Bool) → a || (b || false) ≡ b || a
      swapped true true = refl
      swapped true false = refl
      swapped false true = refl
      swapped false false = refl

  pub reverse-map : (xs : List X) → reverse (map f xs) ≡ map f (reverse xs)
  reverse-map [] = refl
  reverse-map (x ∷ xs) =
      rw (reverse-append (f x ∷ []) (map f xs), reverse-append (x ∷ []) xs, map-append f (reverse xs) (x ∷ []), reverse-map xs) refl
