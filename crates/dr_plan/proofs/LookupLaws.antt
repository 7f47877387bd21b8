-- Places of names, rows of names, and marks.
use Rattle.std.proofs.Common.{◌≡◌, ◌∙◌, ℕ, zero, suc, ◌+◌, ◌<◌, ◌≤◌, ◌^◌, Bool, true, false, cond, List, [], ◌∷◌, ◌++◌, length, get_or, map, filter, find, Option, Some, None, IfSome, option_map, bytes_eq, refl, sym, ap, subst, arith}
use Rattle.std.specs.List.{range_with_len}
use Rattle.std.specs.Ordering.{nat_cmp}
use Rattle.std.specs.Cmp.Lexicographic.{slice_cmp}
use Rattle.std.specs.BTreeMap.{BTreeMap, get}
use Rattle.std.proofs.lemmas.List.{append-nil, map-append, get_or_read}
use Rattle.std.proofs.lemmas.List.Elements.{filter-append}
use Rattle.std.proofs.lemmas.Option.{same_Some}
use Rattle.dr_inventory.specs.declared.estate.PlanMachineRow.{PlanMachineRow}
use Rattle.dr_inventory.specs.declared.estate.PlanRow.{PlanRow}
use Rattle.dr_inventory.specs.Names.{place}
use Rattle.dr_inventory.specs.Places.{AllFit}
use Rattle.dr_inventory.proofs.PlaceLaws.{place_within}
use Rattle.dr_plan.specs.Rows.{row_of, all_held, is_held}
use Rattle.dr_plan.specs.Lookups.{IsPlaces, ArePlacesBelow, AreMarks, row_names}
use Rattle.dr_plan.proofs.WaveLaws.{range_more}

weaker : (o : Option ℕ) (m n : ℕ) → m ≤ n → IfSome o (λ k. k < m) → IfSome o (λ k. k < n)
weaker None m n le h = h
weaker (Some k) m n le h = omega (arith, h)

-- places lie within the list of names
pub places_below : (names : List (List ℕ)) (places : BTreeMap (List ℕ) ℕ) (count : ℕ) → IsPlaces names places → length names ≤ count → ArePlacesBelow count places
places_below names places count are long = λ q. weaker (get (slice_cmp nat_cmp) places q) (length names) count long (rw (are q) (place_within (λ (x : List ℕ). x) names q))

pub places_fit : (names : List (List ℕ)) (places : BTreeMap (List ℕ) ℕ) → IsPlaces names places → length names ≤ 2000 → AllFit places
places_fit names places are short = λ q. weaker (get (slice_cmp nat_cmp) places q) (length names) (2 ^ 32) (omega arith) (rw (are q) (place_within (λ (x : List ℕ). x) names q))

-- a number more that may be marked
pub numbers_more : (test : ℕ → Bool) (i : ℕ) → filter test (range_with_len 0 (i + 1)) ≡ filter test (range_with_len 0 i) ++ cond (test i) (i ∷ []) []
numbers_more test i =
    let next : i + 1 ≡ suc i = omega arith in
    let here : 0 + i ≡ i = omega arith in
    ap (λ n. filter test (range_with_len 0 n)) next ∙ ap (filter test) (range_more 0 i)
    ∙ ap (λ k. filter test (range_with_len 0 i ++ k ∷ [])) here ∙ filter-append test (range_with_len 0 i) (i ∷ [])

pub number_kept : (test : ℕ → Bool) (i : ℕ) (before now : List ℕ) → before ≡ filter test (range_with_len 0 i) → test i ≡ true → now ≡ before ++ i ∷ [] → now ≡ filter test (range_with_len 0 (i + 1))
number_kept test i before now so_far passes pushed = pushed ∙ ap (λ ns. ns ++ i ∷ []) so_far ∙ sym (numbers_more test i ∙ rw passes refl)

pub number_left : (test : ℕ → Bool) (i : ℕ) (before now : List ℕ) → before ≡ filter test (range_with_len 0 i) → test i ≡ false → now ≡ before → now ≡ filter test (range_with_len 0 (i + 1))
number_left test i before now so_far fails same = same ∙ so_far ∙ sym (numbers_more test i ∙ ap (λ b. filter test (range_with_len 0 i) ++ cond b (i ∷ []) []) fails ∙ append-nil (filter test (range_with_len 0 i)))

-- tests that agree on the numbers from a on
agree_from : (p q : ℕ → Bool) (a n : ℕ) → ((k : ℕ) → a ≤ k → k < a + n → p k ≡ q k) → filter p (range_with_len a n) ≡ filter q (range_with_len a n)
agree_from p q a zero each = refl
agree_from p q a (suc n) each =
    let rest : filter p (range_with_len (a + 1) n) ≡ filter q (range_with_len (a + 1) n) = agree_from p q (a + 1) n (λ k low high. each k (omega arith) (omega arith)) in
    let here : p a ≡ q a = each a (omega arith) (omega arith) in
    ap (λ b. cond b (a ∷ filter p (range_with_len (a + 1) n)) (filter p (range_with_len (a + 1) n))) here ∙ ap (λ ks. cond (q a) (a ∷ ks) ks) rest

pub agree_below : (p q : ℕ → Bool) (n : ℕ) → ((k : ℕ) → k < n → p k ≡ q k) → filter p (range_with_len 0 n) ≡ filter q (range_with_len 0 n)
agree_below p q n each = agree_from p q 0 n (λ k low high. each k (omega arith))

-- what is marked is what the groups hold
pub marked_held : (lists : List (List ℕ)) (groups : List ℕ) (count : ℕ) (marks numbers : List Bool) (found : List ℕ) → AreMarks lists groups count marks → numbers ≡ marks
    → found ≡ filter (λ k. get_or numbers k false) (range_with_len 0 (length numbers)) → found ≡ all_held lists groups count
marked_held lists groups count marks numbers found are same is =
    is ∙ ap (λ (ms : List Bool). filter (λ k. get_or ms k false) (range_with_len 0 (length ms))) same
    ∙ ap (λ n. filter (λ k. get_or marks k false) (range_with_len 0 n)) are.one_each
    ∙ agree_below (λ k. get_or marks k false) (is_held lists groups) count are.each

-- a place, and the row that stands there
found_there : (b : Bool) (o : Option ℕ) (y : PlanMachineRow) (ys : List PlanMachineRow) (found : Option PlanMachineRow) (k : ℕ)
    → ((j : ℕ) → o ≡ Some j → (j < length ys) × ((x : PlanMachineRow) → x ≡ get_or ys j x → found ≡ Some x))
    → cond b (Some 0) (option_map suc o) ≡ Some k → (k < length (y ∷ ys)) × ((x : PlanMachineRow) → x ≡ get_or (y ∷ ys) k x → cond b (Some y) found ≡ Some x)
found_there true o y ys found k each h =
    let first_one : 0 ≡ k = same_Some 0 k h in
    let P : ℕ → Type 0 = λ n. (n < length (y ∷ ys)) × ((x : PlanMachineRow) → x ≡ get_or (y ∷ ys) n x → Some y ≡ Some x) in
    subst P first_one (omega arith, λ x e. ap (λ z. Some z) (sym e))
found_there false None y ys found k each h = cc
found_there false (Some j) y ys found k each h =
    let next : suc j ≡ k = same_Some (suc j) k h in
    let P : ℕ → Type 0 = λ n. (n < length (y ∷ ys)) × ((x : PlanMachineRow) → x ≡ get_or (y ∷ ys) n x → found ≡ Some x) in
    let at = each j refl in
    let within : j < length ys = at.0 in
    subst P next (omega arith, at.1)

found_rows : (rows : List PlanMachineRow) (n : List ℕ) (k : ℕ) → place (λ (y : List ℕ). y) (map (λ m. m.name) rows) n ≡ Some k
    → (k < length rows) × ((x : PlanMachineRow) → x ≡ get_or rows k x → find (λ m. bytes_eq n m.name) rows ≡ Some x)
found_rows [] n k h = cc
found_rows (y ∷ ys) n k h = found_there (bytes_eq n y.name) (place (λ (z : List ℕ). z) (map (λ m. m.name) ys) n) y ys (find (λ m. bytes_eq n m.name) ys) k (λ j e. found_rows ys n j e) h

none_there : (b : Bool) (o : Option ℕ) (y : PlanMachineRow) (found : Option PlanMachineRow) → (o ≡ None → found ≡ None) → cond b (Some 0) (option_map suc o) ≡ None → cond b (Some y) found ≡ None
none_there true o y found each h = cc
none_there false None y found each h = each refl
none_there false (Some j) y found each h = cc

none_rows : (rows : List PlanMachineRow) (n : List ℕ) → place (λ (y : List ℕ). y) (map (λ m. m.name) rows) n ≡ None → find (λ m. bytes_eq n m.name) rows ≡ None
none_rows [] n h = refl
none_rows (y ∷ ys) n h = none_there (bytes_eq n y.name) (place (λ (z : List ℕ). z) (map (λ m. m.name) ys) n) y (find (λ m. bytes_eq n m.name) ys) (λ e. none_rows ys n e) h

pub row_within : (row : PlanRow) (places : BTreeMap (List ℕ) ℕ) (n : List ℕ) (k : ℕ) → IsPlaces (row_names row) places → get (slice_cmp nat_cmp) places n ≡ Some k → k < length row.machine
row_within row places n k are h = (found_rows row.machine n k (sym (are n) ∙ h)).0

pub row_there : (row : PlanRow) (places : BTreeMap (List ℕ) ℕ) (n : List ℕ) (k : ℕ) (x : PlanMachineRow) → IsPlaces (row_names row) places → get (slice_cmp nat_cmp) places n ≡ Some k → x ≡ get_or row.machine k x → row_of row n ≡ Some x
row_there row places n k x are h read = (found_rows row.machine n k (sym (are n) ∙ h)).1 x read

pub no_row : (row : PlanRow) (places : BTreeMap (List ℕ) ℕ) (n : List ℕ) → IsPlaces (row_names row) places → get (slice_cmp nat_cmp) places n ≡ None → row_of row n ≡ None
no_row row places n are h = none_rows row.machine n (sym (are n) ∙ h)

pub places_same : (names names' : List (List ℕ)) (places : BTreeMap (List ℕ) ℕ) → names ≡ names' → IsPlaces names places → IsPlaces names' places
places_same names names' places same are = λ q. are q ∙ ap (λ (xs : List (List ℕ)). place (λ x. x) xs q) same

-- one entry more for a number that may be kept
pub entry_kept : {X : Type 0} (f : ℕ → X) (test : ℕ → Bool) (i : ℕ) (before now : List X) (x : X) → before ≡ map f (filter test (range_with_len 0 i)) → test i ≡ true → now ≡ before ++ x ∷ [] → x ≡ f i
    → now ≡ map f (filter test (range_with_len 0 (i + 1)))
entry_kept f test i before now x so_far passes pushed is =
    pushed ∙ ap (λ ys. ys ++ x ∷ []) so_far ∙ ap (λ y. map f (filter test (range_with_len 0 i)) ++ y ∷ []) is
    ∙ sym (ap (map f) (numbers_more test i ∙ ap (λ b. filter test (range_with_len 0 i) ++ cond b (i ∷ []) []) passes) ∙ map-append f (filter test (range_with_len 0 i)) (i ∷ []))

pub entry_left : {X : Type 0} (f : ℕ → X) (test : ℕ → Bool) (i : ℕ) (before now : List X) → before ≡ map f (filter test (range_with_len 0 i)) → test i ≡ false → now ≡ before → now ≡ map f (filter test (range_with_len 0 (i + 1)))
entry_left f test i before now so_far fails same =
    same ∙ so_far ∙ sym (ap (map f) (numbers_more test i ∙ ap (λ b. filter test (range_with_len 0 i) ++ cond b (i ∷ []) []) fails ∙ append-nil (filter test (range_with_len 0 i))))

-- the mark of a machine says whether the plan's groups hold it
pub mark_read : (lists : List (List ℕ)) (groups : List ℕ) (count : ℕ) (marks : List Bool) (i : ℕ) (x b : Bool) → AreMarks lists groups count marks → i < count → x ≡ get_or marks i x → x ≡ b → is_held lists groups i ≡ b
mark_read lists groups count marks i x b are within read is =
    let inside : i < length marks = omega (arith, within, are.one_each) in
    sym (are.each i within) ∙ sym (get_or_read marks i x inside read false) ∙ is
