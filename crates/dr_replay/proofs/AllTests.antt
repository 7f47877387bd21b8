-- Tests and facts of each element of a list.
use Rattle.std.specs.Prelude.{◌≡◌, Bool, true, false, ◌&&◌, IsTrue, ◌↔◌, List, [], ◌∷◌}
use Rattle.std.specs.List.{list_all, AllByRecursion}
use Rattle.std.proofs.Common.{refl, sym, subst}
use Rattle.std.proofs.lemmas.Bool.{false≢true}

module _ {X : Type 0} (P : X → Type 0) where
  -- a test that tells a fact of each element tells it of all
  pub all_tests : (p : X → Bool) → ((x : X) → IsTrue (p x) ↔ P x) → (xs : List X) (b : Bool) → b ≡ list_all p xs → IsTrue b ↔ AllByRecursion P xs
  all_tests p h xs b e = subst (λ a. IsTrue a ↔ AllByRecursion P xs) (sym e) (told xs)
    where
      both : (a b : Bool) (A B : Type 0) → IsTrue a ↔ A → IsTrue b ↔ B → IsTrue (a && b) ↔ (A × B)
      both true b A B h k = (λ e. (h.0 refl, k.0 e), λ f. k.1 f.1)
      both false b A B h k = (λ e. absurd (false≢true e), λ f. h.1 f.0)

      told : (xs : List X) → IsTrue (list_all p xs) ↔ AllByRecursion P xs
      told [] = (λ e. tt, λ k. refl)
      told (x ∷ xs) = both (p x) (list_all p xs) (P x) (AllByRecursion P xs) (h x) (told xs)
