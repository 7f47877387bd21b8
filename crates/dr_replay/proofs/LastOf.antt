-- The last element of a list that the program keeps oldest first.
use Rattle.std.specs.Prelude.{◌≡◌, ℕ, suc, ◌<◌, ◌≤◌, List, [], ◌∷◌, ◌++◌, map, reverse, length}
use Rattle.std.proofs.Common.{sym, ◌∙◌, ap, get_or, set, take, arith}
use Rattle.std.proofs.lemmas.List.{take_all, length-set}
use Rattle.std.proofs.Math.Seq.{take-suc, take-suc-set}
use Rattle.dr_replay.proofs.Told.{told_push}

module _ {X Y : Type 0} (f : X → Y) where
  -- it is the newest
  pub told_last : (xs : List X) (i : ℕ) (x : X) → suc i ≡ length xs → x ≡ get_or xs i x → reverse (map f xs) ≡ f x ∷ reverse (map f (take i xs))
  told_last xs i x last at =
      let lt : i < length xs = omega arith in
      let le : length xs ≤ suc i = omega arith in
      let whole : xs ≡ take i xs ++ x ∷ [] = sym (take_all (suc i) xs le) ∙ take-suc xs i x lt ∙ ap (λ y. take i xs ++ y ∷ []) (sym at) in
      ap (λ ys. reverse (map f ys)) whole ∙ told_push f (take i xs) x

  -- another one in its place is the newest
  pub told_changed : (xs : List X) (i : ℕ) (x : X) → suc i ≡ length xs → reverse (map f (set xs i x)) ≡ f x ∷ reverse (map f (take i xs))
  told_changed xs i x last =
      let lt : i < length xs = omega arith in
      let le : length (set xs i x) ≤ suc i = omega (arith, length-set xs i x) in
      let whole : set xs i x ≡ take i xs ++ x ∷ [] = sym (take_all (suc i) (set xs i x) le) ∙ take-suc-set xs i x lt in
      ap (λ ys. reverse (map f ys)) whole ∙ told_push f (take i xs) x
