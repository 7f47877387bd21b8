-- Spans of changed places, and copying what stands in them.
use Rattle.std.proofs.Common.{◌≡◌, ℕ, zero, suc, ◌-◌, ◌<◌, min, Bool, false, cond, List, [], ◌∷◌, length, take, drop, get_or, set, arith}
use Rattle.std.specs.List.{list_any}
use Rattle.std.proofs.lemmas.Bool.Decides.{nat_tests}
use Rattle.std.proofs.lemmas.List.{places, get_or_past}
use Rattle.dr_disk.specs.Spans.{is_within}
use Rattle.dr_disk.specs.declared.spans.Span.{Span}
use borrow.Rule.Slice.PartMut.{put_mid}

-- a list whose element is replaced by one that passes each test that the element passes
pub list_any-set : {X : Type 0} (p : X → Bool) (xs : List X) (i : ℕ) (y d : X) → i < length xs → (p y ≡ false → p (get_or xs i d) ≡ false) → list_any p (set xs i y) ≡ false → (list_any p xs ≡ false) × (p y ≡ false)
list_any-set p [] i y d lt less none = absurd (omega arith)
list_any-set p (x ∷ xs) zero y d lt less none =
    let head : p y ≡ false = grind arith in
    let rest : list_any p xs ≡ false = grind arith in
    let first : p x ≡ false = less head in
    (grind arith, head)
list_any-set p (x ∷ xs) (suc i) y d lt less none =
    let first : p x ≡ false = grind arith in
    let rest : list_any p (set xs i y) ≡ false = grind arith in
    let both : (list_any p xs ≡ false) × (p y ≡ false) = list_any-set p xs i y d (omega arith) less rest in
    (grind arith, both.1)

-- the byte at a place after what stands in a span was copied
pub get_or-copied : (span : Span) (end : ℕ) (source target copied : List ℕ) (place : ℕ) → length target ≡ length source → end ≡ min span.to (length source) → span.from < end → copied ≡ take (end - span.from) (drop span.from source)
    → get_or (put_mid span.from (end - span.from) target copied) place 0 ≡ cond (is_within place span) (get_or source place 0) (get_or target place 0)
get_or-copied span end source target copied place same is_end lt is = grind (arith, places, nat_tests, get_or_past)
