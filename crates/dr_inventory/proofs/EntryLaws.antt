-- In every estate that is read, a device's consistency entry is the least device of its group.
use Rattle.std.proofs.Common.{◌≡◌, ◌∙◌, ℕ, zero, suc, ◌<◌, ◌≤◌, ◌⊎◌, min, Bool, true, false, cond, ◌||◌, inl, inr, List, [], ◌∷◌, ◌++◌, length, map, flat_map, fold, get_or, Option, Some, None, is_some, unwrap_or, option_map, IfOk, Result, Ok, Err, bytes_eq, refl, sym, ap, subst, arith}
use Rattle.std.specs.List.{AllByRecursion, IsDistinct}
use Rattle.std.specs.Cmp.Lexicographic.{nat_list_eq_equiv}
use Rattle.std.proofs.lemmas.Bool.{cases_Bool}
use Rattle.std.proofs.lemmas.List.{get_or-map, length-map}
use Rattle.std.proofs.lemmas.Map.Keys.{IsDistinct-head, IsDistinct-tail}
use Rattle.std.proofs.lemmas.Slice.Eq.{bytes_eq-Decides}
use Rattle.toml.specs.Data.{Members}
use Rattle.dr_base.specs.declared.estate_fault.EstateFault.TheVariants.{Unknown, DeviceTwice}
use Rattle.dr_inventory.specs.declared.document.ConsistencyEntry.{ConsistencyEntry}
use Rattle.dr_inventory.specs.declared.document.Document.{Document}
use Rattle.dr_inventory.specs.declared.estate.Estate.{Estate}
use Rattle.dr_inventory.specs.Consistency.{HasLeastEntries}
use Rattle.dr_inventory.specs.Documents.{document}
use Rattle.dr_inventory.specs.Estates.{faults, form_faults, row_faults, reading}
use Rattle.dr_inventory.specs.Limits.{limits}
use Rattle.dr_inventory.specs.Names.{is_name_of, place, number, unknown, twice_in}
use Rattle.dr_inventory.specs.Numbers.{least, least_in, consistency_of, device_number, estate_of}
use Rattle.dr_inventory.specs.Part.{ReadError, IsUnlessMemory}
use Rattle.dr_inventory.specs.Rules.{consistency_devices, devices, grouped_devices, twice_faults, unknown_faults, device_faults}
use Rattle.dr_inventory.proofs.Apart.{distinct_names}
use Rattle.dr_inventory.proofs.Empty.{map_empty, front_empty, back_empty, kept_none, kept_rest}
use Rattle.dr_inventory.proofs.RowLaws.{value_is}
use Rattle.dr_inventory.proofs.SoundLaws.{nothing}

-- one of two tests passes
either : {T : Type 0} (b c : Bool) → (b || c) ≡ true → (b ≡ true → T) → (c ≡ true → T) → T
either true c h here there = here refl
either false c h here there = there h

-- this device is one of those that are named
abbrev Names : List (List ℕ) → List ℕ → Type 0
Names ns n = is_name_of (λ d. d) n ns ≡ true

-- a name is that of the row at its place
named_at : (b : Bool) (o : Option ℕ) (n y : List ℕ) (ys : List (List ℕ)) (k : ℕ) → cond b (Some 0) (option_map suc o) ≡ Some k → (b ≡ true → n ≡ y) → ((j : ℕ) → o ≡ Some j → get_or ys j [] ≡ n) → get_or (y ∷ ys) k [] ≡ n
named_at true o n y ys zero h here there = sym (here refl)
named_at true o n y ys (suc k) h here there = let z : 0 ≡ suc k = cc in absurd (omega (arith, z))
named_at false None n y ys k h here there = cc
named_at false (Some j) n y ys zero h here there = let z : suc j ≡ 0 = cc in absurd (omega (arith, z))
named_at false (Some j) n y ys (suc k) h here there = let z : suc j ≡ suc k = cc in let same : j ≡ k = omega (arith, z) in there k (ap (λ i. Some i) same)

at_place : (ds : List (List ℕ)) (n : List ℕ) (k : ℕ) → place (λ d. d) ds n ≡ Some k → get_or ds k [] ≡ n
at_place [] n k h = cc
at_place (y ∷ ys) n k h = named_at (bytes_eq n y) (place (λ d. d) ys n) n y ys k h (λ b. (bytes_eq-Decides n y).0 b) (λ j g. at_place ys n j g)

some_value : (o : Option ℕ) → is_some o ≡ true → o ≡ Some (unwrap_or o 0)
some_value None h = cc
some_value (Some k) h = refl

-- a known name is that of the row of its number
at_number : (ds : List (List ℕ)) (n : List ℕ) → is_some (place (λ d. d) ds n) ≡ true → get_or ds (number (λ d. d) ds n) [] ≡ n
at_number ds n h = at_place ds n (number (λ d. d) ds n) (some_value (place (λ d. d) ds n) h)

-- this many is at least what an option holds, which it does
record HasAtMost (i : ℕ) (o : Option ℕ) : Type 0 where
  there : is_some o ≡ true
  most : unwrap_or o 0 ≤ i

here_or_later : (b : Bool) (o : Option ℕ) (j : ℕ) → HasAtMost j o → HasAtMost (suc j) (cond b (Some 0) (option_map suc o))
here_or_later true o j h = record { there = refl; most = omega arith }
here_or_later false None j h = let z = h.there in cc
here_or_later false (Some k) j h = record { there = refl; most = omega (arith, h.most) }

-- a row's name is known, with the row's number or a lesser one
row_number : (ds : List (List ℕ)) (i : ℕ) → i < length ds → HasAtMost i (place (λ d. d) ds (get_or ds i []))
row_number [] i h = absurd (omega arith)
row_number (y ∷ ys) zero h = rw (nat_list_eq_equiv.refl y) (record { there = refl; most = omega arith })
row_number (y ∷ ys) (suc j) h = here_or_later (bytes_eq (get_or ys j []) y) (place (λ d. d) ys (get_or ys j [])) j (row_number ys j (omega arith))

-- where no name is unknown, each of them is known
known : (ds ns : List (List ℕ)) (n : List ℕ) → unknown (λ d. d) ds ns ≡ [] → Names ns n → is_some (place (λ d. d) ds n) ≡ true
known ds [] n none named = cc
known ds (m ∷ ns) n none named =
    either (bytes_eq n m) (is_name_of (λ d. d) n ns) named
    (λ b. subst (λ x. is_some (place (λ d. d) ds x) ≡ true) (sym ((bytes_eq-Decides n m).0 b)) (kept_none (is_some (place (λ d. d) ds m)) m (unknown (λ d. d) ds ns) none))
    (λ b. known ds ns n (kept_rest (is_some (place (λ d. d) ds m)) m (unknown (λ d. d) ds ns) none) b)

-- a device of these that has this number
record Bears (f : List ℕ → ℕ) (ns : List (List ℕ)) (k : ℕ) : Type 0 where
  name : List ℕ
  named : Names ns name
  is : f name ≡ k

or_true : (b c : Bool) → c ≡ true → (b || c) ≡ true
or_true true c h = refl
or_true false c h = h

further : (f : List ℕ → ℕ) (n : List ℕ) (ns : List (List ℕ)) (k : ℕ) → Bears f ns k → Bears f (n ∷ ns) k
further f n ns k h = record { name = h.name; named = or_true (bytes_eq h.name n) (is_name_of (λ d. d) h.name ns) h.named; is = h.is }

itself : (f : List ℕ → ℕ) (n : List ℕ) (ns : List (List ℕ)) → Bears f (n ∷ ns) (f n)
itself f n ns = record { name = n; named = rw (nat_list_eq_equiv.refl n) refl; is = refl }

lesser : (a b : ℕ) → (min a b ≡ a) ⊎ (min a b ≡ b)
lesser a b = grind arith

-- the least of some numbers is one of them, or the one to begin with
least_borne : (f : List ℕ → ℕ) (k : ℕ) (ns : List (List ℕ)) → (fold min k (map f ns) ≡ k) ⊎ Bears f ns (fold min k (map f ns))
least_borne f k [] = inl refl
least_borne f k (n ∷ ns) =
    elim (least_borne f (min k (f n)) ns) [
      | inl e ↦ elim (lesser k (f n)) [
        | inl a ↦ inl (e ∙ a)
        | inr b ↦ inr (subst (λ x. Bears f (n ∷ ns) x) (sym (e ∙ b)) (itself f n ns))
      ]
      | inr there ↦ inr (further f n ns _ there)
    ]

-- the least number of some devices is that of one of them
least_is : (f : List ℕ → ℕ) (n : List ℕ) (ns : List (List ℕ)) → Bears f (n ∷ ns) (least (map f (n ∷ ns)))
least_is f n ns =
    elim (least_borne f (f n) ns) [
      | inl e ↦ subst (λ x. Bears f (n ∷ ns) x) (sym e) (itself f n ns)
      | inr there ↦ further f n ns _ there
    ]

begun : (k : ℕ) (ns : List ℕ) → fold min k ns ≤ k
begun k [] = omega arith
begun k (n ∷ ns) = omega (arith, begun (min k n) ns)

below_each : (f : List ℕ → ℕ) (k : ℕ) (ns : List (List ℕ)) (n : List ℕ) → Names ns n → fold min k (map f ns) ≤ f n
below_each f k [] n named = cc
below_each f k (m ∷ ns) n named =
    either (bytes_eq n m) (is_name_of (λ d. d) n ns) named
    (λ b. let same : f n ≡ f m = ap f ((bytes_eq-Decides n m).0 b) in omega (arith, same, begun (min k (f m)) (map f ns)))
    (λ b. below_each f (min k (f m)) ns n b)

-- the least number of some devices is at most that of each
least_below : (f : List ℕ → ℕ) (ns : List (List ℕ)) (n : List ℕ) → Names ns n → least (map f ns) ≤ f n
least_below f [] n named = cc
least_below f (m ∷ ns) n named =
    either (bytes_eq n m) (is_name_of (λ d. d) n ns) named
    (λ b. let same : f n ≡ f m = ap f ((bytes_eq-Decides n m).0 b) in omega (arith, same, begun (f m) (map f ns)))
    (λ b. below_each f (f m) ns n b)

-- a device of some of them is one of them all
in_front : (n : List ℕ) (xs ys : List (List ℕ)) → Names xs n → Names (xs ++ ys) n
in_front n [] ys named = cc
in_front n (x ∷ xs) ys named =
    either (bytes_eq n x) (is_name_of (λ d. d) n xs) named
    (λ b. rw b refl)
    (λ b. or_true (bytes_eq n x) (is_name_of (λ d. d) n (xs ++ ys)) (in_front n xs ys b))

behind : (n : List ℕ) (xs ys : List (List ℕ)) → Names ys n → Names (xs ++ ys) n
behind n [] ys named = named
behind n (x ∷ xs) ys named = or_true (bytes_eq n x) (is_name_of (λ d. d) n (xs ++ ys)) (behind n xs ys named)

never_named : (n : List ℕ) (ns : List (List ℕ)) → AllByRecursion (λ m. bytes_eq n m ≡ false) ns → Names ns n → ⊥
never_named n [] apart named = cc
never_named n (m ∷ ns) apart named = either (bytes_eq n m) (is_name_of (λ d. d) n ns) named (λ b. let e = apart.0 in cc) (λ b. never_named n ns apart.1 b)

-- where all are distinct, none is in two parts
not_in_both : (n : List ℕ) (xs ys : List (List ℕ)) → IsDistinct bytes_eq (xs ++ ys) → Names xs n → Names ys n → ⊥
not_in_both n [] ys apart here there = cc
not_in_both n (x ∷ xs) ys apart here there =
    either (bytes_eq n x) (is_name_of (λ d. d) n xs) here
    (λ b. never_named x (xs ++ ys) (IsDistinct-head bytes_eq x (xs ++ ys) apart) (subst (λ m. Names (xs ++ ys) m) ((bytes_eq-Decides n x).0 b) (behind n xs ys there)))
    (λ b. not_in_both n xs ys (IsDistinct-tail bytes_eq x (xs ++ ys) apart) b there)

second_apart : (xs ys : List (List ℕ)) → IsDistinct bytes_eq (xs ++ ys) → IsDistinct bytes_eq ys
second_apart [] ys apart = apart
second_apart (x ∷ xs) ys apart = second_apart xs ys (IsDistinct-tail bytes_eq x (xs ++ ys) apart)

not_named : (b : Bool) → (b ≡ true → ⊥) → b ≡ false
not_named true h = absurd (h refl)
not_named false h = refl

-- a device of the groups whose number is that of its own group's least device
record IsLeader (f : List ℕ → ℕ) (cs : List ConsistencyEntry) (k : ℕ) : Type 0 where
  name : List ℕ
  named : Names (flat_map consistency_devices cs) name
  is : f name ≡ k
  leads : least_in f cs name ≡ Some k

lead_here : (f : List ℕ → ℕ) (c : ConsistencyEntry) (cs : List ConsistencyEntry) (ns : List (List ℕ)) → c.devices ≡ ns → (n : List ℕ) → Names ns n → IsLeader f (c ∷ cs) (least (map f c.devices))
lead_here f c cs [] e n named = cc
lead_here f c cs (m ∷ ns) e n named =
    let one : Bears f c.devices (least (map f c.devices)) = subst (λ xs. Bears f xs (least (map f xs))) (sym e) (least_is f m ns) in
    record {
      name = one.name;
      named = in_front one.name c.devices (flat_map consistency_devices cs) one.named;
      is = one.is;
      leads = rw one.named refl;
    }

-- the least device of a device's group leads it, where no device is in two groups
leader : (f : List ℕ → ℕ) (cs : List ConsistencyEntry) → IsDistinct bytes_eq (flat_map consistency_devices cs) → (n : List ℕ) (k : ℕ) → least_in f cs n ≡ Some k → IsLeader f cs k
leader f [] apart n k h = cc
leader f (c ∷ cs) apart n k h =
    elim (cases_Bool (is_name_of (λ d. d) n c.devices)) [
      | inl b ↦
          let e : Some (least (map f c.devices)) ≡ Some k = rw b at h in
          let same : least (map f c.devices) ≡ k = ap (λ o. unwrap_or o 0) e in
          subst (λ x. IsLeader f (c ∷ cs) x) same (lead_here f c cs c.devices refl n b)
      | inr b ↦
          let later : IsLeader f cs k = leader f cs (second_apart c.devices (flat_map consistency_devices cs) apart) n k (rw b at h) in
          let other : is_name_of (λ d. d) later.name c.devices ≡ false = not_named _ (λ here. not_in_both later.name c.devices (flat_map consistency_devices cs) apart here later.named) in
          record {
            name = later.name;
            named = behind later.name c.devices (flat_map consistency_devices cs) later.named;
            is = later.is;
            leads = rw other later.leads;
          }
    ]

-- an entry is at most its device's number
entry_below : (f : List ℕ → ℕ) (cs : List ConsistencyEntry) (n : List ℕ) → consistency_of f cs n ≤ f n
entry_below f [] n = omega arith
entry_below f (c ∷ cs) n =
    elim (cases_Bool (is_name_of (λ d. d) n c.devices)) [
      | inl b ↦ rw b (least_below f c.devices n b)
      | inr b ↦ rw b (entry_below f cs n)
    ]

-- the device of an entry has that entry
entry_again : (ds : List (List ℕ)) (cs : List ConsistencyEntry) → IsDistinct bytes_eq (flat_map consistency_devices cs) → unknown (λ d. d) ds (flat_map consistency_devices cs) ≡ [] → (n : List ℕ) → is_some (place (λ d. d) ds n) ≡ true
    → (o : Option ℕ) → least_in (number (λ d. d) ds) cs n ≡ o → consistency_of (number (λ d. d) ds) cs (get_or ds (unwrap_or o (number (λ d. d) ds n)) []) ≡ unwrap_or o (number (λ d. d) ds n)
entry_again ds cs apart none n there None e = rw (at_number ds n there, e) refl
entry_again ds cs apart none n there (Some k) e =
    let f = number (λ d. d) ds in
    let first : IsLeader f cs k = leader f cs apart n k e in
    let at : get_or ds k [] ≡ first.name = ap (λ i. get_or ds i []) (sym first.is) ∙ at_number ds first.name (known ds (flat_map consistency_devices cs) first.name none first.named) in
    rw (at, first.leads) refl

-- the entry of a row
entry_at : (f : List ℕ → ℕ) (ds : List (List ℕ)) (cs : List ConsistencyEntry) (i : ℕ) → i < length ds → get_or (map (consistency_of f cs) ds) i 0 ≡ consistency_of f cs (get_or ds i [])
entry_at f ds cs i h = get_or-map (consistency_of f cs) ds i [] 0 h

least_entries : (doc : Document) → unknown (λ n. n) (devices doc) (grouped_devices doc) ≡ [] → twice_in (grouped_devices doc) ≡ [] → HasLeastEntries (estate_of doc)
least_entries doc none once =
    let ds = devices doc in
    let cs = doc.consistency in
    let f = device_number doc in
    let most : (i : ℕ) → i < length ds → consistency_of f cs (get_or ds i []) ≤ i = λ i h. omega (arith, entry_below f cs (get_or ds i []), (row_number ds i h).most) in
    record {
      in_group = λ i h.
          let n = get_or ds i [] in
          let again = entry_again ds cs (distinct_names (grouped_devices doc) once) none n (row_number ds i h).there (least_in f cs n) refl in
          rw (entry_at f ds cs i h) (entry_at f ds cs (consistency_of f cs n) (omega (arith, most i h)) ∙ again);
      least = λ i h. rw (entry_at f ds cs i h) (most i h);
    }

entries_of_rows : (doc : Document) → row_faults doc ≡ [] → HasLeastEntries (estate_of doc)
entries_of_rows doc h =
    let after = back_empty (twice_faults doc) (unknown_faults doc ++ (device_faults doc ++ limits doc)) h in
    let not_known = front_empty (unknown_faults doc) (device_faults doc ++ limits doc) after in
    let device = front_empty (device_faults doc) (limits doc) (back_empty (unknown_faults doc) (device_faults doc ++ limits doc) after) in
    least_entries doc (map_empty (λ n. Unknown n) _ (front_empty _ _ (back_empty _ _ not_known)))
    (map_empty (λ n. DeviceTwice n) _ (back_empty (map (λ n. DeviceTwice n) (twice_in (devices doc))) _ device))

entries_read : (t : Members) (e : Estate) → reading t ≡ Ok e → HasLeastEntries e
entries_read t e h =
    let none = nothing (faults t) (estate_of (document t).value) e h in
    subst (λ (e : Estate). HasLeastEntries e) (value_is (faults t) (estate_of (document t).value) e h)
    (entries_of_rows (document t).value (back_empty (form_faults t) (row_faults (document t).value) none))

pub entries_result : (t : Members) (r : Result Estate ReadError) → IsUnlessMemory r (reading t) → IfOk r HasLeastEntries
entries_result t (Ok e) h = entries_read t e h
entries_result t (Err e) h = tt
