-- Two lists, element by element.
use Rattle.std.specs.Prelude.{◌≡◌, ◌↔◌, IsTrue, ℕ, ◌==◌, Bool, true, false, ◌&&◌, List, [], ◌∷◌, map, length}
use Rattle.std.specs.List.{list_all, zip}
use Rattle.std.proofs.Common.{refl, arith}
use Rattle.std.proofs.lemmas.Bool.{eq-eqb, eqb-true}

-- numbers of one list, compared with those of another of its length
pub all_agree : {X : Type 0} (f : X → ℕ) (xs : List X) (ns : List ℕ) → length xs ≡ length ns →
    IsTrue (list_all (λ p. f p.0 == p.1) (zip xs ns)) ↔ map f xs ≡ ns
all_agree f [] [] l = ((λ t. refl), λ e. refl)
all_agree f [] (n ∷ ns) l = absurd (omega arith)
all_agree f (x ∷ xs) [] l = absurd (omega arith)
all_agree f (x ∷ xs) (n ∷ ns) l = go (f x == n) (list_all (λ p. f p.0 == p.1) (zip xs ns)) refl (all_agree f xs ns (omega arith))
  where
    go : (this rest : Bool) → (f x == n) ≡ this → (IsTrue rest ↔ map f xs ≡ ns) → IsTrue (this && rest) ↔ f x ∷ map f xs ≡ n ∷ ns
    go true rest h e = ((λ t. rw (eqb-true (f x) n h, e.0 t) refl), λ s. e.1 cc)
    go false rest h e = ((λ t. absurd cc), λ s. let same : f x ≡ n = cc in absurd (cc (eq-eqb (f x) n same)))
