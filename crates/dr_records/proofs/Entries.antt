-- The readers of lists are exact.
use Rattle.std.proofs.Common.{◌≡◌, ℕ, zero, suc, ◌^◌, ◌<◌, Bool, List, [], ◌∷◌, ◌++◌, length, Result, Ok, refl, sym, ap, subst, ◌∙◌, arith}
use Rattle.std.specs.List.{flat_map, AllByRecursion}
use Rattle.std.specs.Int.{w16, w32, w64, to_be_bytes}
use Rattle.std.proofs.lemmas.List.{nil_from_length}
use Rattle.std.proofs.lemmas.List.Elements.{All-from_recursion, recursion_from_All}
use Rattle.dr_records.specs.declared.records.StartPair.{StartPair}
use Rattle.dr_records.specs.Spelling.{four_bytes, eight_bytes, pair_text, list_text, IsPair, IsList}
use Rattle.dr_records.specs.Reading.{number_at, entries_at, list_at, pair_at}
use Rattle.dr_records.proofs.Formats.{Reads, Then, Made, then, makes, alike}
use Rattle.dr_records.proofs.Fields.{Spelled, Number, number_reads, wide16, wide32, wide64, Anything, flag_text, flag_reads}

pub number32 : Reads (Number w32 (2 ^ 32)) (number_at w32)
number32 = number_reads w32 (2 ^ 32) wide32

pub number64 : Reads (Number w64 (2 ^ 64)) (number_at w64)
number64 = number_reads w64 (2 ^ 64) wide64

pub number16 : Reads (Number w16 (2 ^ 16)) (number_at w16)
number16 = number_reads w16 (2 ^ 16) wide16

abbrev AreEntries : {A : Type 0} → (A → Type 0) → ℕ → List A → Type 0
AreEntries Good n xs = (length xs ≡ n) × AllByRecursion Good xs

abbrev Entries : {A : Type 0} → (A → Type 0) → (A → List ℕ) → ℕ → List A → List ℕ → Type 0
Entries Good spell n = Spelled (AreEntries Good n) (flat_map spell)

abbrev done : {A : Type 0} → A → Result A ℕ
done x = Ok x

done_is : {A : Type 0} (x y : A) → done x ≡ done y → x ≡ y
done_is x y e = cc

none_reads : {A : Type 0} (Good : A → Type 0) (spell : A → List ℕ) (read : List ℕ → Result (A × List ℕ) ℕ) → Reads (Entries Good spell 0) (entries_at read zero)
unfolding entries_at
none_reads {A} Good spell read = record {
  sample = ([], [], record { good = (refl, tt); is = refl });
  takes = λ bytes xs rest fits e.
      let made : List A × List ℕ = ([], bytes) in
      let given : List A × List ℕ = (xs, rest) in
      let pair : made ≡ given = done_is made given e in
      let none : [] ≡ xs = ap (λ (p : List A × List ℕ). p.0) pair in
      ([], subst (λ (ys : List A). Entries Good spell 0 ys []) none (record { good = (refl, tt); is = refl }), ap (λ (p : List A × List ℕ). p.1) pair);
  again = λ xs text rest s.
      let none : xs ≡ [] = nil_from_length xs s.good.0 in
      let empty : text ≡ [] = s.is ∙ ap (flat_map spell) none in
      ap (λ (z : List ℕ). done (nothing A, z ++ rest)) empty ∙ ap (λ (ys : List A). done (ys, rest)) (sym none);
  stuck = λ bytes left fits e. absurd cc;
}
  where
    nothing : (A : Type 0) → List A
    nothing A = []

abbrev Cons : {A : Type 0} → (A → Type 0) → (A → List ℕ) → ℕ → List A → List ℕ → Type 0
Cons Good spell n = Then (Spelled Good spell) (λ x. Made (Entries Good spell n) (λ xs. x ∷ xs))

cons_to : {A : Type 0} (Good : A → Type 0) (spell : A → List ℕ) (n : ℕ) (xs : List A) (text : List ℕ) → Cons Good spell n xs text → Entries Good spell (suc n) xs text
cons_to {A} Good spell n xs text t =
    subst (λ (ys : List A). Entries Good spell (suc n) ys text) (sym t.is_rest.made) (record {
      good = (ap suc t.is_rest.is_from.good.0, (t.is_first.good, t.is_rest.is_from.good.1));
      is = t.parts ∙ ap (λ (z : List ℕ). z ++ t.tail) t.is_first.is ∙ ap (λ (z : List ℕ). spell t.first ++ z) t.is_rest.is_from.is;
    })

cons_from : {A : Type 0} (Good : A → Type 0) (spell : A → List ℕ) (n : ℕ) (xs : List A) (text : List ℕ) → Entries Good spell (suc n) xs text → Cons Good spell n xs text
cons_from Good spell n [] text s = absurd (omega (arith, s.good.0))
cons_from Good spell n (x ∷ xs) text s = record {
  first = x;
  head = spell x;
  tail = flat_map spell xs;
  is_first = record { good = s.good.1.0; is = refl };
  is_rest = record { from = xs; is_from = record { good = (omega (arith, s.good.0), s.good.1.1); is = refl }; made = refl };
  parts = s.is;
}

entries_reads : {A : Type 0} (Good : A → Type 0) (spell : A → List ℕ) (read : List ℕ → Result (A × List ℕ) ℕ) → Reads (Spelled Good spell) read → (n : ℕ) → Reads (Entries Good spell n) (entries_at read n)
unfolding entries_at
entries_reads Good spell read r zero = none_reads Good spell read
entries_reads Good spell read r (suc n) = alike (Cons Good spell n) (Entries Good spell (suc n)) (entries_at read (suc n)) (cons_to Good spell n) (cons_from Good spell n)
    (then r (λ x text s. makes (λ xs. x ∷ xs) (entries_reads Good spell read r n)))

abbrev Counted : {A : Type 0} → (A → Type 0) → (A → List ℕ) → List A → List ℕ → Type 0
Counted Good spell = Then (Number w16 (2 ^ 16)) (Entries Good spell)

counted_to : {A : Type 0} (Good : A → Type 0) (spell : A → List ℕ) (xs : List A) (text : List ℕ) → Counted Good spell xs text → Spelled (IsList Good) (list_text spell) xs text
counted_to Good spell xs text t =
    let size : length xs ≡ t.first = t.is_rest.good.0 in
    record {
      good = (subst (λ (n : ℕ). n < 2 ^ 16) (sym size) t.is_first.good, All-from_recursion Good xs t.is_rest.good.1);
      is = t.parts ∙ ap (λ (z : List ℕ). z ++ t.tail) (t.is_first.is ∙ ap (to_be_bytes w16) (sym size)) ∙ ap (λ (z : List ℕ). to_be_bytes w16 (length xs) ++ z) t.is_rest.is;
    }

counted_from : {A : Type 0} (Good : A → Type 0) (spell : A → List ℕ) (xs : List A) (text : List ℕ) → Spelled (IsList Good) (list_text spell) xs text → Counted Good spell xs text
counted_from Good spell xs text s = record {
  first = length xs;
  head = to_be_bytes w16 (length xs);
  tail = flat_map spell xs;
  is_first = record { good = s.good.0; is = refl };
  is_rest = record { good = (refl, recursion_from_All Good xs s.good.1); is = refl };
  parts = s.is;
}

pub list_reads : {A : Type 0} (Good : A → Type 0) (spell : A → List ℕ) (read : List ℕ → Result (A × List ℕ) ℕ) → Reads (Spelled Good spell) read → Reads (Spelled (IsList Good) (list_text spell)) (list_at read)
unfolding list_at
list_reads Good spell read r = alike (Counted Good spell) (Spelled (IsList Good) (list_text spell)) (list_at read) (counted_to Good spell) (counted_from Good spell)
    (then number16 (λ n text s. entries_reads Good spell read r n))

-- ---- pairs

abbrev pair_of : ℕ → Bool → ℕ → ℕ → StartPair
pair_of pair seen old new = record { pair = pair; seen = seen; old_writes = old; new_writes = new }

abbrev PairParts : StartPair → List ℕ → Type 0
PairParts = Then (Number w32 (2 ^ 32)) (λ pair. Then (Spelled Anything flag_text) (λ seen. Then (Number w64 (2 ^ 64)) (λ old. Made (Number w64 (2 ^ 64)) (λ new. pair_of pair seen old new))))

pair_to : (p : StartPair) (text : List ℕ) → PairParts p text → Spelled IsPair pair_text p text
pair_to p text t =
    let u = t.is_rest in
    let v = u.is_rest in
    let w = v.is_rest in
    subst (λ (q : StartPair). Spelled IsPair pair_text q text) (sym w.made) (record {
      good = (t.is_first.good, v.is_first.good, w.is_from.good);
      is = rw (t.parts, t.is_first.is, u.parts, u.is_first.is, v.parts, v.is_first.is, w.is_from.is) refl;
    })

pair_from : (p : StartPair) (text : List ℕ) → Spelled IsPair pair_text p text → PairParts p text
pair_from p text s = record {
  first = p.pair;
  head = four_bytes p.pair;
  tail = flag_text p.seen ++ (eight_bytes p.old_writes ++ eight_bytes p.new_writes);
  is_first = record { good = s.good.0; is = refl };
  is_rest = record {
    first = p.seen;
    head = flag_text p.seen;
    tail = eight_bytes p.old_writes ++ eight_bytes p.new_writes;
    is_first = record { good = tt; is = refl };
    is_rest = record {
      first = p.old_writes;
      head = eight_bytes p.old_writes;
      tail = eight_bytes p.new_writes;
      is_first = record { good = s.good.1; is = refl };
      is_rest = record { from = p.new_writes; is_from = record { good = s.good.2; is = refl }; made = refl };
      parts = refl;
    };
    parts = refl;
  };
  parts = s.is;
}

pub pair_reads : Reads (Spelled IsPair pair_text) pair_at
unfolding pair_at
pair_reads = alike PairParts (Spelled IsPair pair_text) pair_at pair_to pair_from
    (then number32 (λ pair t s. then flag_reads (λ seen t s. then number64 (λ old t s. makes (λ new. pair_of pair seen old new) number64))))
