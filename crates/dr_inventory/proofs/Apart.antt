-- Names that stand once, and their numbers.
use Rattle.std.proofs.Common.{◌≡◌, ◌∙◌, ℕ, ◌<◌, Bool, true, false, not, cond, ◌||◌, suc, List, [], ◌∷◌, ◌++◌, length, map, flat_map, Option, Some, None, is_some, unwrap_or, option_map, IfSome, bytes_eq, nat_eq, refl, sym, ap, append_assoc, arith}
use Rattle.std.specs.List.{AllByRecursion, All, IsDistinct, list_any}
use Rattle.std.specs.Cmp.Lexicographic.{nat_list_eq_equiv}
use Rattle.std.proofs.lemmas.Bool.{eqb-true}
use Rattle.std.proofs.lemmas.List.{append-nil, map-append}
use Rattle.std.proofs.lemmas.List.Elements.{filter-append, All-from_recursion}
use Rattle.std.proofs.lemmas.Map.Keys.{IsDistinct-push, IsDistinct-cons, IsDistinct-head, IsDistinct-tail}
use Rattle.std.proofs.lemmas.Slice.Eq.{bytes_eq-Decides}
use Rattle.dr_inventory.specs.Names.{is_name_of, twice, twice_in, nothing_within, place, number, unknown}
use Rattle.dr_inventory.proofs.Empty.{not_chosen, rest_empty, front_empty, back_empty, kept_none, kept_rest}
use Rattle.dr_inventory.proofs.PlaceLaws.{place_within}

false_unless : (b : Bool) → (b ≡ true → ⊥) → b ≡ false
false_unless true h = absurd (h refl)
false_unless false h = refl

-- a name of a row is among the names
among_names : {X : Type 0} (key : X → List ℕ) (n : List ℕ) (xs : List X) → list_any (bytes_eq n) (map key xs) ≡ is_name_of key n xs
among_names key n [] = refl
among_names key n (x ∷ xs) = ap (λ b. bytes_eq n (key x) || b) (among_names key n xs)

-- where nothing stands twice, the keys are distinct
keys_apart : {X : Type 0} (key name : X → List ℕ) (within : X → List (List ℕ)) (before rows : List X) → twice key name within before rows ≡ []
    → IsDistinct bytes_eq (map key before) → IsDistinct bytes_eq (map key (before ++ rows))
unfolding twice
keys_apart key name within before [] h apart = rw (append-nil before) apart
keys_apart key name within before (x ∷ rows) h apart =
    let new = among_names key (key x) before ∙ not_chosen (is_name_of key (key x) before) (name x) _ h in
    let rest = back_empty (within x) _ (rest_empty (is_name_of key (key x) before) (name x) _ h) in
    let pushed = IsDistinct-push nat_list_eq_equiv (map key before) (key x) apart new in
    let one : IsDistinct bytes_eq (map key (before ++ x ∷ [])) = rw (map-append key before (x ∷ [])) pushed in
    rw append_assoc at (keys_apart key name within (before ++ x ∷ []) rows rest one)

pub distinct_keys : {X : Type 0} (key name : X → List ℕ) (within : X → List (List ℕ)) (rows : List X) → twice key name within [] rows ≡ [] → IsDistinct bytes_eq (map key rows)
unfolding IsDistinct
distinct_keys key name within rows h = keys_apart key name within [] rows h tt

map_itself : {X : Type 0} (xs : List X) → map (λ x. x) xs ≡ xs
map_itself [] = refl
map_itself (x ∷ xs) = ap (λ ys. x ∷ ys) (map_itself xs)

pub distinct_names : (names : List (List ℕ)) → twice_in names ≡ [] → IsDistinct bytes_eq names
distinct_names names h = rw (map_itself names) at (distinct_keys (λ n. n) (λ n. n) nothing_within names h)

-- nor does anything within a row
nothing_in : {X : Type 0} (key name : X → List ℕ) (within : X → List (List ℕ)) (P : X → Type 0) → ((x : X) → within x ≡ [] → P x) → (before rows : List X) → twice key name within before rows ≡ [] → AllByRecursion P rows
unfolding twice
nothing_in key name within P right before [] h = tt
nothing_in key name within P right before (x ∷ rows) h =
    let both = rest_empty (is_name_of key (key x) before) (name x) _ h in
    (right x (front_empty (within x) _ both), nothing_in key name within P right (before ++ x ∷ []) rows (back_empty (within x) _ both))

pub all_within_right : {X : Type 0} (key name : X → List ℕ) (within : X → List (List ℕ)) (P : X → Type 0) → ((x : X) → within x ≡ [] → P x) → (rows : List X) → twice key name within [] rows ≡ [] → All P rows
all_within_right key name within P right rows h = All-from_recursion P rows (nothing_in key name within P right [] rows h)

pub within_right : {X : Type 0} (key name : X → List ℕ) (within : X → List (List ℕ)) (P : X → Type 0) → ((x : X) → within x ≡ [] → P x) → (rows : List X) → twice key name within [] rows ≡ [] → AllByRecursion P rows
within_right key name within P right rows h = nothing_in key name within P right [] rows h

-- names at one place are one name
at_one_place : {T : Type 0} (b c : Bool) (o p : Option ℕ) (k : ℕ) → cond b (Some 0) (option_map suc o) ≡ Some k → cond c (Some 0) (option_map suc p) ≡ Some k
    → (b ≡ true → c ≡ true → T) → ((j : ℕ) → o ≡ Some j → p ≡ Some j → T) → T
at_one_place true true o p k e f here there = here refl refl
at_one_place true false o None k e f here there = cc
at_one_place true false o (Some j) k e f here there = let z : 0 ≡ suc j = cc in absurd (omega (arith, z))
at_one_place false true None p k e f here there = cc
at_one_place false true (Some j) p k e f here there = let z : 0 ≡ suc j = cc in absurd (omega (arith, z))
at_one_place false false None p k e f here there = cc
at_one_place false false (Some i) None k e f here there = cc
at_one_place false false (Some i) (Some j) k e f here there = let z : suc i ≡ suc j = cc in let same : j ≡ i = omega (arith, z) in there i refl (ap (λ n. Some n) same)

same_place : {X : Type 0} (name : X → List ℕ) (rows : List X) (m n : List ℕ) (k : ℕ) → place name rows m ≡ Some k → place name rows n ≡ Some k → m ≡ n
same_place name [] m n k e f = cc
same_place name (y ∷ ys) m n k e f =
    at_one_place (bytes_eq m (name y)) (bytes_eq n (name y)) (place name ys m) (place name ys n) k e f
    (λ a b. (bytes_eq-Decides m (name y)).0 a ∙ sym ((bytes_eq-Decides n (name y)).0 b))
    (λ j g h. same_place name ys m n j g h)

known_place : (o : Option ℕ) → is_some o ≡ true → o ≡ Some (unwrap_or o 0)
known_place None h = cc
known_place (Some k) h = refl

-- known names of one number are one name
same_number : {X : Type 0} (name : X → List ℕ) (rows : List X) (m n : List ℕ) → is_some (place name rows m) ≡ true → is_some (place name rows n) ≡ true → number name rows m ≡ number name rows n → m ≡ n
same_number name rows m n hm hn same =
    same_place name rows m n (number name rows m) (known_place (place name rows m) hm) (known_place (place name rows n) hn ∙ ap (λ k. Some k) (sym same))

apart_numbers : {X : Type 0} (name : X → List ℕ) (rows : List X) (n : List ℕ) → is_some (place name rows n) ≡ true → (ms : List (List ℕ)) → unknown name rows ms ≡ []
    → AllByRecursion (λ m. bytes_eq n m ≡ false) ms → AllByRecursion (λ k. nat_eq (number name rows n) k ≡ false) (map (number name rows) ms)
apart_numbers name rows n hn [] known apart = tt
apart_numbers name rows n hn (m ∷ ms) known apart =
    let hm = kept_none (is_some (place name rows m)) m (unknown name rows ms) known in
    let rest = kept_rest (is_some (place name rows m)) m (unknown name rows ms) known in
    let differ : nat_eq (number name rows n) (number name rows m) ≡ true → ⊥ = λ e.
    let same : n ≡ m = same_number name rows n m hn hm (eqb-true (number name rows n) (number name rows m) e) in
    let itself : bytes_eq n m ≡ true = rw (← same) (nat_list_eq_equiv.refl n) in cc (itself, apart.0) in
    (false_unless _ differ, apart_numbers name rows n hn ms rest apart.1)

-- distinct names that are known have distinct numbers
pub distinct_numbers : {X : Type 0} (name : X → List ℕ) (rows : List X) (ns : List (List ℕ)) → unknown name rows ns ≡ [] → IsDistinct bytes_eq ns → IsDistinct nat_eq (map (number name rows) ns)
unfolding IsDistinct
distinct_numbers name rows [] known apart = tt
distinct_numbers name rows (n ∷ ns) known apart =
    let here = kept_none (is_some (place name rows n)) n (unknown name rows ns) known in
    let rest = kept_rest (is_some (place name rows n)) n (unknown name rows ns) known in
    IsDistinct-cons nat_eq (number name rows n) (map (number name rows) ns) (apart_numbers name rows n here ns rest (IsDistinct-head bytes_eq n ns apart))
    (distinct_numbers name rows ns rest (IsDistinct-tail bytes_eq n ns apart))

small_number : (o : Option ℕ) (n : ℕ) → is_some o ≡ true → IfSome o (λ k. k < n) → unwrap_or o 0 < n
small_number None n s h = cc
small_number (Some k) n s h = h

numbers_below : {X : Type 0} (name : X → List ℕ) (rows : List X) (ns : List (List ℕ)) → unknown name rows ns ≡ [] → AllByRecursion (λ k. k < length rows) (map (number name rows) ns)
numbers_below name rows [] h = tt
numbers_below name rows (n ∷ ns) h =
    let here = kept_none (is_some (place name rows n)) n (unknown name rows ns) h in
    let rest = kept_rest (is_some (place name rows n)) n (unknown name rows ns) h in
    (small_number (place name rows n) (length rows) here (place_within name rows n), numbers_below name rows ns rest)

-- known names have numbers within the list
pub all_below : {X : Type 0} (name : X → List ℕ) (rows : List X) (ns : List (List ℕ)) → unknown name rows ns ≡ [] → All (λ k. k < length rows) (map (number name rows) ns)
all_below name rows ns h = All-from_recursion (λ k. k < length rows) (map (number name rows) ns) (numbers_below name rows ns h)

-- where all names of some rows are known, those of each row are
pub each_known : {X Y : Type 0} (name : X → List ℕ) (rows : List X) (names : Y → List (List ℕ)) (ys : List Y) → unknown name rows (flat_map names ys) ≡ [] → AllByRecursion (λ y. unknown name rows (names y) ≡ []) ys
each_known name rows names [] h = tt
each_known name rows names (y ∷ ys) h =
    let parts = sym (filter-append (λ n. not (is_some (place name rows n))) (names y) (flat_map names ys)) ∙ h in
    (front_empty _ _ parts, each_known name rows names ys (back_empty _ _ parts))

-- a name of a list has a place there
found_later : (b : Bool) (o : Option ℕ) → is_some o ≡ true → is_some (cond b (Some 0) (option_map suc o)) ≡ true
found_later true o h = refl
found_later false None h = cc
found_later false (Some k) h = refl

has_place : (front : List (List ℕ)) (n : List ℕ) (rest : List (List ℕ)) → is_some (place (λ x. x) (front ++ n ∷ rest) n) ≡ true
has_place [] n rest = rw (nat_list_eq_equiv.refl n) refl
has_place (x ∷ front) n rest = found_later (bytes_eq n x) (place (λ x. x) (front ++ n ∷ rest) n) (has_place front n rest)

drop_known : {X : Type 0} (b : Bool) (x : X) (xs : List X) → b ≡ true → xs ≡ [] → cond (not b) (x ∷ xs) xs ≡ []
drop_known true x xs h e = e
drop_known false x xs h e = cc

known_there : (front rest : List (List ℕ)) → unknown (λ x. x) (front ++ rest) rest ≡ []
known_there front [] = refl
known_there front (n ∷ rest) =
    drop_known (is_some (place (λ x. x) (front ++ n ∷ rest) n)) n (unknown (λ x. x) (front ++ n ∷ rest) rest) (has_place front n rest)
    (rw append_assoc at (known_there (front ++ n ∷ []) rest))

pub known_itself : (names : List (List ℕ)) → unknown (λ x. x) names names ≡ []
known_itself names = known_there [] names
