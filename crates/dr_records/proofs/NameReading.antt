-- Reading a name of a given length.
use Rattle.std.proofs.Common.{◌≡◌, ℕ, zero, suc, ◌-◌, ◌<◌, ◌≤◌, min, Bool, true, false, cond, leb, ◌&&◌, List, length, take, drop, Option, Some, None, Result, Ok, Err, refl, sym, ap, ◌∙◌, arith}
use Rattle.std.proofs.lemmas.Bool.{le-leb, lt-leb, and_left, and_right}
use Rattle.std.proofs.lemmas.List.{take_min, take_rest}
use Rattle.dr_base.specs.Names.{is_name}
use Rattle.dr_records.specs.Reading.{longest_name, name_of}

pub longest_within : (n : ℕ) (bytes : List ℕ) → longest_name n bytes ≤ n
longest_within zero bytes = omega arith
longest_within (suc n) bytes = chosen (is_name (take (suc n) bytes)) n (longest_name n bytes) (longest_within n bytes)
  where
    chosen : (b : Bool) (n k : ℕ) → k ≤ n → cond b (suc n) k ≤ suc n
    chosen true n k h = omega arith
    chosen false n k h = omega arith

some_if : (b : Bool) (x y : List ℕ) → cond b (Some x) None ≡ Some y → (b ≡ true) × (x ≡ y)
some_if true x y e = (refl, cc)
some_if false x y e = absurd cc

none_if : (b : Bool) (x : List ℕ) → cond b (Some x) None ≡ None → b ≡ false
none_if true x e = absurd cc
none_if false x e = refl

-- what is read where the test is true or false
when_true : (b : Bool) (x y : Result (List ℕ × List ℕ) ℕ) → b ≡ true → cond b x y ≡ x
when_true b x y e = ap (λ (t : Bool). cond t x y) e

when_false : (b : Bool) (x y : Result (List ℕ × List ℕ) ℕ) → b ≡ false → cond b x y ≡ y
when_false b x y e = ap (λ (t : Bool). cond t x y) e

both : (a b : Bool) → a ≡ true → b ≡ true → (a && b) ≡ true
both true b e f = f
both false b e f = absurd cc

pub name_found : (size k : ℕ) (bytes name : List ℕ) (read : Option (List ℕ)) → k ≡ min size (length bytes) → size ≤ length bytes → read ≡ cond (is_name (take k bytes)) (Some (take k bytes)) None → read ≡ Some name → name_of size bytes ≡ Ok (name, take (length bytes - size) (drop size bytes))
name_found size k bytes name read e le h g =
    let front : take k bytes ≡ take size bytes = ap (λ (n : ℕ). take n bytes) e ∙ take_min size bytes in
    let same : cond (is_name (take size bytes)) (Some (take size bytes)) None ≡ Some name = ap (λ (f : List ℕ). cond (is_name f) (Some f) None) (sym front) ∙ (sym h ∙ g) in
    let s = some_if (is_name (take size bytes)) (take size bytes) name same in
    when_true (is_name (take size bytes) && leb size (length bytes)) (Ok (take size bytes, drop size bytes)) (Err (length bytes - longest_name (length (take size bytes)) (take size bytes))) (both _ _ s.0 (le-leb size (length bytes) le))
    ∙ ap (λ (x : List ℕ). Ok (x, drop size bytes)) s.1
    ∙ ap (λ (x : List ℕ). Ok (name, x)) (sym (take_rest bytes size))

lost : (size k longest : ℕ) (bytes : List ℕ) → k ≡ min size (length bytes) → longest ≡ longest_name (length (take k bytes)) (take k bytes) → (is_name (take size bytes) && leb size (length bytes)) ≡ false → name_of size bytes ≡ Err (length bytes - longest)
lost size k longest bytes e l f =
    let front : take k bytes ≡ take size bytes = ap (λ (n : ℕ). take n bytes) e ∙ take_min size bytes in
    when_false (is_name (take size bytes) && leb size (length bytes)) (Ok (take size bytes, drop size bytes)) (Err (length bytes - longest_name (length (take size bytes)) (take size bytes))) f
    ∙ ap (λ (n : ℕ). Err (length bytes - n)) (sym (l ∙ ap (λ (x : List ℕ). longest_name (length x) x) front))

pub name_short : (size k longest : ℕ) (bytes : List ℕ) → k ≡ min size (length bytes) → longest ≡ longest_name (length (take k bytes)) (take k bytes) → length bytes < size → name_of size bytes ≡ Err (length bytes - longest)
name_short size k longest bytes e l lt = lost size k longest bytes e l (and_right _ _ (lt-leb size (length bytes) lt))

pub name_lost : (size k longest : ℕ) (bytes : List ℕ) (read : Option (List ℕ)) → k ≡ min size (length bytes) → longest ≡ longest_name (length (take k bytes)) (take k bytes) → read ≡ cond (is_name (take k bytes)) (Some (take k bytes)) None → read ≡ None → name_of size bytes ≡ Err (length bytes - longest)
name_lost size k longest bytes read e l h g =
    let front : take k bytes ≡ take size bytes = ap (λ (n : ℕ). take n bytes) e ∙ take_min size bytes in
    let same : cond (is_name (take size bytes)) (Some (take size bytes)) None ≡ None = ap (λ (f : List ℕ). cond (is_name f) (Some f) None) (sym front) ∙ (sym h ∙ g) in
    lost size k longest bytes e l (and_left _ _ (none_if (is_name (take size bytes)) (take size bytes) same))
