-- The reader of names is exact.
use Rattle.std.proofs.Common.{◌≡◌, ℕ, zero, suc, ◌+◌, ◌-◌, ◌≤◌, Bool, true, false, cond, leb, ◌&&◌, List, [], ◌∷◌, ◌++◌, length, get_or, take, drop, replicate, Ok, Err, refl, sym, ap, subst, ◌∙◌, append_assoc, arith, inl, inr, ◌⊎◌}
use Rattle.std.specs.List.{list_all}
use Rattle.std.proofs.lemmas.Bool.{cases_lt, leb-true, le-leb, and_parts, and_from, both_ways}
use Rattle.std.proofs.lemmas.List.{take_at, drop_at, take-append-drop, take-take, length-append, length-take, length-take-le, length-drop, length-replicate, length_push, get_or-take, get_or_append_left, get_or-replicate}
use Rattle.std.proofs.lemmas.List.Folds.{list_all-append}
use Rattle.dr_base.specs.Names.{is_name, is_name_byte, is_alphanumeric}
use Rattle.dr_records.specs.Spelling.{name_text}
use Rattle.dr_records.specs.Reading.{longest_name, name_of, name_at}
use Rattle.dr_records.proofs.Formats.{Stuck, Reads, Then, then, alike}
use Rattle.dr_records.proofs.Fields.{Spelled, ByteIn, byte_reads, test_ok, test_err, test_true}
use Rattle.dr_records.proofs.NameReading.{longest_within}

-- what makes a name
pub record NameParts (bytes : List ℕ) : Type 0 where
  pub some : 1 ≤ length bytes
  pub few : length bytes ≤ 64
  pub first : is_alphanumeric (get_or bytes 0 0) ≡ true
  pub others : list_all is_name_byte bytes ≡ true

pub parts_of : (bytes : List ℕ) → is_name bytes ≡ true → NameParts bytes
parts_of bytes h =
    let a = and_parts (leb 1 (length bytes) && leb (length bytes) 64 && is_alphanumeric (get_or bytes 0 0)) (list_all is_name_byte bytes) h in
    let b = and_parts (leb 1 (length bytes) && leb (length bytes) 64) (is_alphanumeric (get_or bytes 0 0)) a.0 in
    let d = and_parts (leb 1 (length bytes)) (leb (length bytes) 64) b.0 in
    record { some = leb-true _ _ d.0; few = leb-true _ _ d.1; first = b.1; others = a.1 }

pub name_of_parts : (bytes : List ℕ) → NameParts bytes → is_name bytes ≡ true
name_of_parts bytes p = and_from _ _ (and_from _ _ (and_from _ _ (le-leb _ _ p.some) (le-leb _ _ p.few)) p.first) p.others

all_take : (p : ℕ → Bool) (n : ℕ) (xs : List ℕ) → list_all p xs ≡ true → list_all p (take n xs) ≡ true
all_take p zero xs h = refl
all_take p (suc n) [] h = refl
all_take p (suc n) (x ∷ xs) h = let parts = and_parts _ _ h in and_from _ _ parts.0 (all_take p n xs parts.1)

all_replicate : (p : ℕ → Bool) (n x : ℕ) → p x ≡ true → list_all p (replicate n x) ≡ true
all_replicate p zero x h = refl
all_replicate p (suc n) x h = and_from _ _ h (all_replicate p n x h)

-- a front of a name that isn't empty is a name
pub front_is_name : (n : ℕ) (bytes : List ℕ) → 1 ≤ n → n ≤ length bytes → is_name bytes ≡ true → is_name (take n bytes) ≡ true
front_is_name n bytes some within h =
    let p = parts_of bytes h in
    let size = length-take-le n bytes within in
    name_of_parts (take n bytes) (record {
      some = omega arith;
      few = omega (arith, p.few);
      first = rw (get_or-take n bytes 0 0 (omega arith)) p.first;
      others = all_take is_name_byte n bytes p.others;
    })

-- a name, or nothing, goes on with any number of letters
abbrev pub NameOrNothing : List ℕ → Type 0
NameOrNothing front = (front ≡ []) ⊎ (is_name front ≡ true)

letters : (n : ℕ) → 1 ≤ n → n ≤ 64 → is_name (replicate n 97) ≡ true
letters n some few =
    let size = length-replicate {A = ℕ} n 97 in
    name_of_parts (replicate n 97) (record {
      some = omega arith;
      few = omega arith;
      first = rw (get_or-replicate {A = ℕ} n 0 97 0 (omega arith)) refl;
      others = all_replicate is_name_byte n 97 refl;
    })

extended : (front : List ℕ) (n : ℕ) → is_name front ≡ true → length front + n ≤ 64 → is_name (front ++ replicate n 97) ≡ true
extended front n h few =
    let p = parts_of front h in
    let size = length-replicate {A = ℕ} n 97 in
    let whole = length-append front (replicate n 97) in
    name_of_parts (front ++ replicate n 97) (record {
      some = omega (arith, p.some);
      few = omega arith;
      first = rw (get_or_append_left front (replicate n 97) 0 0 (omega (arith, p.some))) p.first;
      others = list_all-append is_name_byte front (replicate n 97) ∙ and_from _ _ p.others (all_replicate is_name_byte n 97 refl);
    })

goes_on : (front : List ℕ) (n : ℕ) → NameOrNothing front → 1 ≤ length front + n → length front + n ≤ 64 → is_name (front ++ replicate n 97) ≡ true
goes_on front n h some few =
    elim h [
      | inl e ↦ subst (λ (f : List ℕ). 1 ≤ length f + n → length f + n ≤ 64 → is_name (f ++ replicate n 97) ≡ true) (sym e) (λ a b. letters n (omega (arith, a)) (omega (arith, b))) some few
      | inr name ↦ extended front n name few
    ]

-- ---- the longest name at the front

-- one byte more of two lists that go on alike
more_taken : (k size : ℕ) (bytes x : List ℕ) (d : ℕ) (more rest : List ℕ) → drop k bytes ≡ d ∷ more → x ≡ take k bytes ++ d ∷ rest → k + 1 ≤ size → length (take k bytes) ≡ k → take (k + 1) x ≡ take (k + 1) (take size bytes)
more_taken k size bytes x d more rest at x_is le size_is =
    let seam : length (take k bytes ++ d ∷ []) ≡ k + 1 = length_push (take k bytes) d ∙ ap (λ (n : ℕ). n + 1) size_is in
    let ours : take (k + 1) x ≡ take k bytes ++ d ∷ [] = ap (take (k + 1)) (x_is ∙ sym (append_assoc (take k bytes) (d ∷ []) rest)) ∙ take_at (take k bytes ++ d ∷ []) rest (k + 1) seam in
    let whole : bytes ≡ (take k bytes ++ d ∷ []) ++ more = sym (take-append-drop k bytes) ∙ ap (λ (z : List ℕ). take k bytes ++ z) at ∙ sym (append_assoc (take k bytes) (d ∷ []) more) in
    let theirs : take (k + 1) bytes ≡ take k bytes ++ d ∷ [] = ap (take (k + 1)) whole ∙ take_at (take k bytes ++ d ∷ []) more (k + 1) seam in
    ours ∙ sym (take-take (k + 1) size bytes le ∙ theirs)

chosen_is : (n : ℕ) (bytes : List ℕ) (b : Bool) → is_name (take (suc n) bytes) ≡ b → NameOrNothing (take (longest_name n bytes) bytes) → NameOrNothing (take (cond b (suc n) (longest_name n bytes)) bytes)
chosen_is n bytes true h rest = inr h
chosen_is n bytes false h rest = rest

longest_is : (n : ℕ) (bytes : List ℕ) → NameOrNothing (take (longest_name n bytes) bytes)
longest_is zero bytes = inl refl
longest_is (suc n) bytes = chosen_is n bytes (is_name (take (suc n) bytes)) refl (longest_is n bytes)

chosen_most : (n j : ℕ) (bytes : List ℕ) (b : Bool) → is_name (take (suc n) bytes) ≡ b → j ≤ suc n → is_name (take j bytes) ≡ true → (j ≤ n → j ≤ longest_name n bytes) → j ≤ cond b (suc n) (longest_name n bytes)
chosen_most n j bytes true h le name rest = le
chosen_most n j bytes false h le name rest =
    elim (cases_lt n j) [
      | inl lt ↦ let same : j ≡ suc n = omega arith in absurd (both_ways _ h (subst (λ (k : ℕ). is_name (take k bytes) ≡ true) same name))
      | inr within ↦ rest within
    ]

-- no longer front is a name
longest_most : (n j : ℕ) (bytes : List ℕ) → j ≤ n → is_name (take j bytes) ≡ true → j ≤ longest_name n bytes
longest_most zero j bytes le name = le
longest_most (suc n) j bytes le name = chosen_most n j bytes (is_name (take (suc n) bytes)) refl le name (λ within. longest_most n j bytes within name)

-- ---- a name of a given length

pub record NameOf (size : ℕ) (name text : List ℕ) : Type 0 where
  pub is_name : is_name name ≡ true
  pub size_is : length name ≡ size
  pub is : text ≡ name

name_takes : (size : ℕ) (bytes name rest : List ℕ) → name_of size bytes ≡ Ok (name, rest) → (text : List ℕ) × NameOf size name text × (bytes ≡ text ++ rest)
name_takes size bytes name rest e =
    let g = test_ok (is_name (take size bytes) && leb size (length bytes)) (length bytes - longest_name (length (take size bytes)) (take size bytes)) (take size bytes, drop size bytes) (name, rest) e in
    let parts = and_parts (is_name (take size bytes)) (leb size (length bytes)) g.0 in
    let same : take size bytes ≡ name = ap (λ (p : List ℕ × List ℕ). p.0) g.1 in
    let after : drop size bytes ≡ rest = ap (λ (p : List ℕ × List ℕ). p.1) g.1 in (
      take size bytes,
      record {
        is_name = subst (λ (x : List ℕ). is_name x ≡ true) same parts.0;
        size_is = ap length (sym same) ∙ length-take-le size bytes (leb-true _ _ parts.1);
        is = same;
      },
      sym (take-append-drop size bytes) ∙ ap (λ (z : List ℕ). take size bytes ++ z) after,
    )

name_again : (size : ℕ) (name rest : List ℕ) → is_name name ≡ true → length name ≡ size → name_of size (name ++ rest) ≡ Ok (name, rest)
name_again size name rest h e =
    let front = take_at name rest size e in
    let behind = drop_at name rest size e in
    let named : is_name (take size (name ++ rest)) ≡ true = ap is_name front ∙ h in
    let long : leb size (length (name ++ rest)) ≡ true = le-leb _ _ (omega (arith, length-append name rest)) in
    test_true _ (Ok (take size (name ++ rest), drop size (name ++ rest))) _ (and_from _ _ named long)
    ∙ ap (λ (x : List ℕ). Ok (x, drop size (name ++ rest))) front
    ∙ ap (λ (x : List ℕ). Ok (name, x)) behind

name_stuck : (size : ℕ) → 1 ≤ size → size ≤ 64 → (bytes : List ℕ) (left : ℕ) → name_of size bytes ≡ Err left → Stuck (NameOf size) bytes left
name_stuck size some few bytes left e =
    let part = take size bytes in
    let k = longest_name (length part) part in
    let g = test_err (is_name part && leb size (length bytes)) (length bytes - k) left (part, drop size bytes) e in
    let part_size = length-take size bytes in
    let within = longest_within (length part) part in
    let k_size : k ≤ size = omega arith in
    let k_bytes : k ≤ length bytes = omega arith in
    let front : take k part ≡ take k bytes = take-take k size bytes k_size in
    let front_size = length-take-le k bytes k_bytes in
    let named : NameOrNothing (take k bytes) = subst NameOrNothing front (longest_is (length part) part) in
    let letters_size = length-replicate {A = ℕ} (size - k) 97 in
    let name : List ℕ = take k bytes ++ replicate (size - k) 97 in
    record {
      front = take k bytes;
      back = drop k bytes;
      whole = sym (take-append-drop k bytes);
      count = length-drop k bytes ∙ g.1;
      begins = (
        name,
        name,
        replicate (size - k) 97,
        record {
          is_name = goes_on (take k bytes) (size - k) named (omega arith) (omega arith);
          size_is = omega (arith, length-append (take k bytes) (replicate (size - k) 97));
          is = refl;
        },
        refl,
      );
      stops = λ d more at x text rest n f.
          let x_is : x ≡ take k bytes ++ d ∷ rest = sym n.is ∙ f in
          let x_size : length x ≡ k + suc (length rest) = ap length x_is ∙ (length-append (take k bytes) (d ∷ rest) ∙ ap (λ (m : ℕ). m + suc (length rest)) front_size) in
          let back_size : length bytes - k ≡ suc (length more) = sym (length-drop k bytes) ∙ ap length at in
          let one_more : take (k + 1) x ≡ take (k + 1) part = more_taken k size bytes x d more rest at x_is (omega (arith, n.size_is)) front_size in
          let name_front : is_name (take (k + 1) x) ≡ true = front_is_name (k + 1) x (omega arith) (omega arith) n.is_name in
          let most = longest_most (length part) (k + 1) part (omega (arith, n.size_is)) (subst (λ (z : List ℕ). is_name z ≡ true) one_more name_front) in
          omega arith;
    }

name_of_reads : (size : ℕ) → 1 ≤ size → size ≤ 64 → Reads (NameOf size) (name_of size)
name_of_reads size some few = record {
  sample = (replicate size 97, replicate size 97, record { is_name = letters size some few; size_is = length-replicate {A = ℕ} size 97; is = refl });
  takes = λ bytes name rest fits e. name_takes size bytes name rest e;
  again = λ name text rest n. ap (λ (z : List ℕ). name_of size (z ++ rest)) n.is ∙ name_again size name rest n.is_name n.size_is;
  stuck = λ bytes left fits e. name_stuck size some few bytes left e;
}

abbrev pub IsName : List ℕ → Type 0
IsName name = is_name name ≡ true

name_to : (name text : List ℕ) → Then (ByteIn 1 64) NameOf name text → Spelled IsName name_text name text
name_to name text t = record {
  good = t.is_rest.is_name;
  is = t.parts ∙ ap (λ (z : List ℕ). z ++ t.tail) t.is_first.is ∙ ap (λ (z : List ℕ). t.first ∷ z) t.is_rest.is ∙ ap (λ (n : ℕ). n ∷ name) (sym t.is_rest.size_is);
}

name_from : (name text : List ℕ) → Spelled IsName name_text name text → Then (ByteIn 1 64) NameOf name text
name_from name text s =
    let p = parts_of name s.good in
    record {
      first = length name;
      head = length name ∷ [];
      tail = name;
      is_first = record { good = (p.some, p.few); is = refl };
      is_rest = record { is_name = s.good; size_is = refl; is = refl };
      parts = s.is;
    }

pub name_reads : Reads (Spelled IsName name_text) name_at
unfolding name_at
name_reads = alike (Then (ByteIn 1 64) NameOf) (Spelled IsName name_text) name_at name_to name_from
    (then (byte_reads 1 64 (omega arith)) (λ size text s. name_of_reads size s.good.0 s.good.1))
