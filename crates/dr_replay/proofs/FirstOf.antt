-- A change of the first elements of a list, one after the other.
use Rattle.std.specs.Prelude.{◌≡◌, ℕ, zero, suc, ◌+◌, ◌<◌, List, [], ◌∷◌, ◌++◌, map, reverse, length}
use Rattle.std.proofs.Common.{refl, sym, ◌∙◌, ap, get_or, set, take, drop, arith, add-one}
use Rattle.std.proofs.lemmas.List.{map-set, length-map, append-nil, take_all, drop_all}
use Rattle.std.proofs.Math.ListN.{get_or-map}
use Rattle.dr_replay.proofs.Told.{reverse-map}

-- the list with its first i elements changed
abbrev pub first_of : {Y : Type 0} → (Y → Y) → ℕ → List Y → List Y
first_of g zero ys = ys
first_of g (suc i) [] = []
first_of g (suc i) (y ∷ ys) = g y ∷ first_of g i ys

module _ {Y : Type 0} (g : Y → Y) where
  -- the next element is not changed yet; where it is changed too
  pub first_next : (i : ℕ) (zs : List Y) (y d : Y) → i < length (first_of g i zs) → y ≡ g (get_or (first_of g i zs) i d) → set (first_of g i zs) i y ≡ first_of g (i + 1) zs
  first_next i zs y d l e = rw (add-one i) (next i zs l e)
    where
      next : (i : ℕ) (zs : List Y) → i < length (first_of g i zs) → y ≡ g (get_or (first_of g i zs) i d) → set (first_of g i zs) i y ≡ first_of g (suc i) zs
      next zero [] l e = refl
      next zero (z ∷ zs) l e = ap (λ w. w ∷ zs) e
      next (suc i) [] l e = refl
      next (suc i) (z ∷ zs) l e = ap (λ ws. g z ∷ ws) (next i zs (omega arith) e)

  pub first_all : (zs : List Y) → first_of g (length zs) zs ≡ map g zs
  first_all [] = refl
  first_all (z ∷ zs) = ap (λ ws. g z ∷ ws) (first_all zs)

  module _ {X : Type 0} (f : X → Y) where
    -- a step of a loop over a list whose values change
    pub first_step : (zs : List Y) (xs : List X) (i : ℕ) (x d : X) → map f xs ≡ first_of g i zs → i < length xs → f x ≡ g (f (get_or xs i d)) → map f (set xs i x) ≡ first_of g (i + 1) zs
    first_step zs xs i x d e l is =
        rw (map-set f xs i x, e)
        (first_next i zs (f x) (f d)
        (let long : length (map f xs) ≡ length xs = length-map xs f in omega (arith, long, ap length e))
        (is ∙ ap g (sym (get_or-map f xs i d)) ∙ ap (λ ys. g (get_or ys i (f d))) e))

    -- at the loop's end
    pub first_done : (zs : List X) (xs : List X) (i : ℕ) → map f xs ≡ first_of g i (map f zs) → i ≡ length zs → reverse (map f xs) ≡ map g (reverse (map f zs))
    first_done zs xs i e is =
        let whole : i ≡ length (map f zs) = is ∙ sym (length-map zs f) in
        let same : map f xs ≡ map g (map f zs) = rw (whole, first_all (map f zs)) at e in
        rw same (reverse-map g (map f zs))

-- a slice of a Vec, given back
pub given_back : {X : Type 0} (xs ws : List X) (n : ℕ) → n ≡ length xs → length ws ≡ length xs → take n (ws ++ drop (length ws) xs) ≡ ws
given_back xs ws n h k = rw (drop_all (length ws) xs (omega arith), append-nil ws) (take_all n ws (omega arith))
