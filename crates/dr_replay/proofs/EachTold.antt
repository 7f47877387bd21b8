-- A loop that asks whether something holds of each element, where the definitions have the list newest first.
use Rattle.std.specs.Prelude.{◌≡◌, ◌↔◌, IsTrue, ℕ, ◌+◌, ◌<◌, Bool, true, false, ◌&&◌, List, map, reverse, length}
use Rattle.std.specs.List.{AllByRecursion}
use Rattle.std.proofs.Common.{refl, ◌∙◌, get_or, take}
use Rattle.dr_replay.proofs.Told.{told_more}

module _ {X Y : Type 0} (f : X → Y) where
  -- a step of the loop
  pub all_told_more : (P : Y → Type 0) (xs : List X) (i : ℕ) (x : X) (this all : Bool) → i < length xs → x ≡ get_or xs i x →
      (IsTrue this ↔ P (f x)) → (IsTrue all ↔ AllByRecursion P (reverse (map f (take i xs)))) →
      IsTrue (this && all) ↔ AllByRecursion P (reverse (map f (take (i + 1) xs)))
  all_told_more P xs i x this all l is here before = rw (told_more f xs i x l, ← is) (both this all here before)
    where
      both : (this all : Bool) → (IsTrue this ↔ P (f x)) → (IsTrue all ↔ AllByRecursion P (reverse (map f (take i xs)))) →
          IsTrue (this && all) ↔ (P (f x) × AllByRecursion P (reverse (map f (take i xs))))
      both true all here before = ((λ t. (here.0 refl, before.0 t)), λ each. before.1 each.1)
      both false all here before = ((λ t. absurd cc), λ each. here.1 each.0)

-- the values of `this && all`
pub and_on : (this all new : Bool) → this ≡ true → new ≡ all → new ≡ (this && all)
and_on this all new h e = rw h e

pub and_off : (this all new : Bool) → this ≡ false → new ≡ this → new ≡ (this && all)
and_off this all new h e = rw h (e ∙ h)
