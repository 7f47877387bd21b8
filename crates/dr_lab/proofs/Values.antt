-- Fields that hold values: from words to values.
use Rattle.std.proofs.Common.{ℕ, ◌≡◌, ◌∙◌, ◌<◌, ◌≤◌, ◌+◌, ◌^◌, ◌%◌, Bool, true, false, List, [], ◌∷◌, ◌++◌, refl, sym, ap, subst, arith, rules}
use Rattle.std.specs.Prelude.{◌==◌, ◌&&◌, not, IsTrue, decimal}
use Rattle.std.specs.List.{list_all, slice_split, join_with_byte}
use Rattle.std.proofs.lemmas.Bool.Decides.{Decides-eqb, nat_tests}
use Rattle.std.proofs.lemmas.Fmt.{decimal_by_steps, decimal_injective}
use Rattle.std.proofs.lemmas.List.Folds.{list_all-append}
use Rattle.std.proofs.lemmas.List.Splits.{join_with_byte-slice_split}
use Rattle.dr_base.specs.Names.{is_name, is_name_byte}
use Rattle.dr_base.specs.Paths.{is_path, is_slash}
use Rattle.dr_lab.specs.Fields.{is_free, field, Taken, NoneThere, Spells, SpellsNone}

abbrev pub Free : ℕ → List ℕ → Type 0
Free end word = is_free end word ≡ true

-- the value of the word that was found
pub value_taken : {T : Type 0} (Is : T → Type 0) (spell : T → List ℕ) (front : List ℕ) (end : ℕ) → ((y : T) → Is y → Free end (spell y)) → {bytes word rest : List ℕ} {x : T} → Taken (Free end) (field front end) bytes word rest → Spells Is spell word x → Taken Is (λ y. field front end (spell y)) bytes x rest
value_taken Is spell front end free {bytes} {word} {rest} {x} taken spelt = record {
  is = spelt.is;
  whole = taken.whole ∙ ap (λ (z : List ℕ). field front end z ++ rest) spelt.whole;
  only = λ y more is e. let one = taken.only (spell y) more (free y is) e in (spelt.only y is (sym one.0), one.1);
}

-- none where no word is there
pub value_none : {T : Type 0} (Is : T → Type 0) (spell : T → List ℕ) (front : List ℕ) (end : ℕ) → ((y : T) → Is y → Free end (spell y)) → {bytes : List ℕ} → NoneThere (Free end) (field front end) bytes → NoneThere Is (λ y. field front end (spell y)) bytes
value_none Is spell front end free none = record { none = λ y more is e. none.none (spell y) more (free y is) e }

-- none where the word is no value's
pub value_other : {T : Type 0} (Is : T → Type 0) (spell : T → List ℕ) (front : List ℕ) (end : ℕ) → ((y : T) → Is y → Free end (spell y)) → {bytes word rest : List ℕ} → Taken (Free end) (field front end) bytes word rest → SpellsNone Is spell word → NoneThere Is (λ y. field front end (spell y)) bytes
value_other Is spell front end free taken other = record { none = λ y more is e. let one = taken.only (spell y) more (free y is) e in other.none y is (sym one.0) }

both : (a b : Bool) → (a && b) ≡ true → (a ≡ true) × (b ≡ true)
both true b e = (refl, e)
both false b e = absurd cc

-- a byte from '-' on is no end
free_from : (end b : ℕ) (t : Bool) → (b == end) ≡ t → end < 45 → 45 ≤ b → not t ≡ true
free_from end b true is below high = let same : b ≡ end = (Decides-eqb b end).0 is in absurd (omega arith)
free_from end b false is below high = refl

free_one : (end b : ℕ) → end < 45 → 45 ≤ b → Free end (b ∷ [])
free_one end b below high = let free : not (b == end) ≡ true = free_from end b (b == end) refl below high in rw free refl

free_more : (end b : ℕ) (bytes : List ℕ) → not (b == end) ≡ true → Free end bytes → Free end (b ∷ bytes)
free_more end b bytes free rest = rw free rest

free_append : (end : ℕ) (a b : List ℕ) → Free end a → Free end b → Free end (a ++ b)
free_append end a b fa fb = list_all-append (λ x. not (x == end)) a b ∙ rw (fa, fb) refl

-- digits are no end
pub free_decimal : (greatest end : ℕ) → end < 45 → greatest < 2 ^ 64 → (n : ℕ) → n ≤ greatest → Free end (decimal n)
free_decimal greatest end below fits n small = decimal_by_steps (λ k ds. Free end ds) (λ k one. free_one end (48 + k) below (omega arith)) (λ k ds more front. free_append end ds ((48 + k % 10) ∷ []) front (free_one end (48 + k % 10) below (omega arith))) n (omega arith)

-- numbers that are spelled alike are one
pub same_number : (greatest m n : ℕ) (word : List ℕ) → m < 2 ^ 64 → greatest < 2 ^ 64 → n ≤ greatest → word ≡ decimal m → word ≡ decimal n → n ≡ m
same_number greatest m n word fits great small is_m is_n = decimal_injective n m (omega arith) fits (sym is_n ∙ is_m)

high_byte : (b : ℕ) → is_name_byte b ≡ true → 45 ≤ b
high_byte b is = grind (arith, nat_tests)

free_all : (end : ℕ) → end < 45 → (bytes : List ℕ) → list_all is_name_byte bytes ≡ true → Free end bytes
free_all end below [] is = refl
free_all end below (b ∷ bytes) is =
    let parts : (is_name_byte b ≡ true) × (list_all is_name_byte bytes ≡ true) = search rules in
    free_more end b bytes (free_from end b (b == end) refl below (high_byte b parts.0)) (free_all end below bytes parts.1)

name_bytes : (bytes : List ℕ) → is_name bytes ≡ true → list_all is_name_byte bytes ≡ true
name_bytes bytes is = search rules

-- nor is a byte of a name
pub free_name : (end : ℕ) → end < 45 → (bytes : List ℕ) → IsTrue (is_name bytes) → Free end bytes
free_name end below bytes is = free_all end below bytes (name_bytes bytes (search rules))

free_join : (end : ℕ) → end < 45 → (parts : List (List ℕ)) → list_all is_name parts ≡ true → Free end (join_with_byte 47 parts)
free_join end below [] is = refl
free_join end below (part ∷ []) is = free_all end below part (name_bytes part (search rules))
free_join end below (part ∷ more ∷ parts) is =
    let parted = both (is_name part) (list_all is_name (more ∷ parts)) is in
    free_append end part (47 ∷ join_with_byte 47 (more ∷ parts)) (free_all end below part (name_bytes part parted.0)) (free_more end 47 (join_with_byte 47 (more ∷ parts)) (free_from end 47 (47 == end) refl below (omega arith)) (free_join end below (more ∷ parts) parted.1))

path_parts : (bytes : List ℕ) → is_path bytes ≡ true → list_all is_name (slice_split is_slash bytes) ≡ true
path_parts bytes is = search rules

-- nor one of a path
pub free_path : (end : ℕ) → end < 45 → (bytes : List ℕ) → IsTrue (is_path bytes) → Free end bytes
free_path end below bytes is = subst (Free end) (join_with_byte-slice_split 47 bytes) (free_join end below (slice_split is_slash bytes) (path_parts bytes (search rules)))

-- a word that spells itself
pub itself : (Is : List ℕ → Type 0) (word : List ℕ) → Is word → Spells Is (λ w. w) word word
itself Is word is = record { is = is; whole = refl; only = λ y is_y e. sym e }
