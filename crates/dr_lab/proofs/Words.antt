-- Words up to an end.
use Rattle.std.proofs.Common.{ℕ, ◌≡◌, ◌<◌, ◌+◌, suc, Bool, true, false, List, [], ◌∷◌, ◌++◌, length, take, drop, Some, None, refl, ap, subst, arith, rules}
use Rattle.std.specs.Prelude.{◌==◌, ◌≢◌, nat_lt, cond}
use Rattle.std.specs.List.{position_or_len, position}
use Rattle.std.proofs.lemmas.Bool.Decides.{Decides-eqb}
use Rattle.dr_lab.specs.Fields.{is_free}

abbrev place : ℕ → List ℕ → ℕ
place end bytes = position_or_len (λ b. b == end) bytes

-- a list is cut at its first `end`
pub record Cut (end : ℕ) (bytes : List ℕ) (at : ℕ) : Type 0 where
  pub free : is_free end (take at bytes) ≡ true
  pub whole : bytes ≡ take at bytes ++ end ∷ drop (suc at) bytes

later : (end b : ℕ) (bytes : List ℕ) (at : ℕ) → (b == end) ≡ false → Cut end bytes at → Cut end (b ∷ bytes) (suc at)
later end b bytes at other cut = record { free = grind (arith, cut.free, other); whole = ap (λ (z : List ℕ). b ∷ z) cut.whole }

cut_from : (end b : ℕ) (bytes : List ℕ) (t : Bool) → (b == end) ≡ t → (place end bytes < length bytes → Cut end bytes (place end bytes)) → place end (b ∷ bytes) < length (b ∷ bytes) → Cut end (b ∷ bytes) (place end (b ∷ bytes))
cut_from end b bytes true is below h = rw is (record { free = refl; whole = let same : b ≡ end = (Decides-eqb b end).0 is in cc })
cut_from end b bytes false is below h =
    let shorter : place end bytes < length bytes = let known = rw is at h in omega (arith, known) in
    let count : suc (place end bytes) ≡ 1 + place end bytes = omega arith in
    rw is (subst (Cut end (b ∷ bytes)) count (later end b bytes (place end bytes) is (below shorter)))

cut_at : (end : ℕ) (bytes : List ℕ) → place end bytes < length bytes → Cut end bytes (place end bytes)
cut_at end [] h = absurd (omega (arith, h))
cut_at end (b ∷ bytes) h = cut_from end b bytes (b == end) refl (cut_at end bytes) h

-- a list has one word up to its first `end`
pub one_word : (end : ℕ) (a b c d : List ℕ) → is_free end a ≡ true → is_free end b ≡ true → a ++ end ∷ c ≡ b ++ end ∷ d → (a ≡ b) × (c ≡ d)
one_word end [] [] c d fa fb e = (refl, cc)
one_word end [] (y ∷ b) c d fa fb e = let same : end ≡ y = cc in absurd (grind (arith, fb, same))
one_word end (x ∷ a) [] c d fa fb e = let same : x ≡ end = cc in absurd (grind (arith, fa, same))
one_word end (x ∷ a) (y ∷ b) c d fa fb e =
    let first : x ≡ y = cc in
    let found = one_word end a b c d (grind (arith, fa)) (grind (arith, fb)) cc in
    (cc (first, found.0), found.1)

cut_by : (end : ℕ) (bytes : List ℕ) (at : ℕ) (t : Bool) → nat_lt (place end bytes) (length bytes) ≡ t → cond t (Some (place end bytes)) None ≡ Some at → Cut end bytes at
cut_by end bytes at true below is = let same : place end bytes ≡ at = cc in subst (Cut end bytes) same (cut_at end bytes (search (rules, below)))
cut_by end bytes at false below is = absurd cc

-- the place of the first `end`, where there is one
pub cut : (end : ℕ) (bytes : List ℕ) (at : ℕ) → position (λ b. b == end) bytes ≡ Some at → Cut end bytes at
cut end bytes at is = cut_by end bytes at (nat_lt (place end bytes) (length bytes)) refl is

-- behind a word there is an `end`
within_from : (end x : ℕ) (bytes : List ℕ) (t : Bool) → (x == end) ≡ t → (t ≡ false → place end bytes < length bytes) → place end (x ∷ bytes) < length (x ∷ bytes)
within_from end x bytes true is below = rw is (omega arith)
within_from end x bytes false is below = let shorter : place end bytes < length bytes = below refl in rw is (omega arith)

within : (end : ℕ) (a c : List ℕ) → place end (a ++ end ∷ c) < length (a ++ end ∷ c)
within end [] c = within_from end end c true ((Decides-eqb end end).1 refl) (λ no_end. absurd cc)
within end (x ∷ a) c = within_from end x (a ++ end ∷ c) (x == end) refl (λ other. within end a c)

none_by : (end : ℕ) (bytes : List ℕ) (t : Bool) → nat_lt (place end bytes) (length bytes) ≡ t → place end bytes < length bytes → cond t (Some (place end bytes)) None ≢ None
none_by end bytes true is below e = absurd cc
none_by end bytes false is below e = absurd (search (rules, is, below))

-- a list with no `end` has no word up to one
pub no_word : (end : ℕ) (bytes a c : List ℕ) → position (λ b. b == end) bytes ≡ None → bytes ≢ a ++ end ∷ c
no_word end bytes a c none e = none_by end bytes (nat_lt (place end bytes) (length bytes)) refl (rw e (within end a c)) none
