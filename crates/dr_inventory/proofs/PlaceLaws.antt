-- Places of names, row by row.
use Rattle.std.proofs.Common.{◌≡◌, ℕ, IfSome, ◌^◌, zero, suc, ◌+◌, ◌<◌, ◌≤◌, Bool, true, false, cond, List, [], ◌∷◌, ◌++◌, length, take, drop, get_or, Option, Some, None, is_some, option_map, find, filter, flat_map, refl, sym, ap, ◌∙◌, arith, bytes_eq}
use Rattle.std.specs.Option.{option_or}
use Rattle.std.proofs.lemmas.List.{drop_more}
use Rattle.std.proofs.Math.ListN.{drop_of_length-le}
use Rattle.dr_inventory.specs.Names.{first, place}

pub noted : (o : Option ℕ) (b d : Bool) (i : ℕ) → b ≡ d → (b ≡ true → o ≡ None) → cond b (Some i) o ≡ option_or o (cond d (Some i) None)
noted None true d i e h = rw (← e) refl
noted None false d i e h = rw (← e) refl
noted (Some k) true d i e h = let n = h refl in cc
noted (Some k) false d i e h = refl

shifted : (o : Option ℕ) (b : Bool) (i : ℕ) → option_map suc (option_or o (cond b (Some i) None)) ≡ option_or (option_map suc o) (cond b (Some (i + 1)) None)
shifted None true i = let k : suc i ≡ i + 1 = omega arith in ap (λ n. Some n) k
shifted None false i = refl
shifted (Some k) b i = refl

or_first : (b : Bool) (o p : Option ℕ) → cond b (Some 0) (option_or o p) ≡ option_or (cond b (Some 0) o) p
or_first true o p = refl
or_first false o p = refl

pub place_more : {X : Type 0} (name : X → List ℕ) (rows : List X) (i : ℕ) (x : X) (q : List ℕ) → i < length rows → x ≡ get_or rows i x
    → place name (take (i + 1) rows) q ≡ option_or (place name (take i rows) q) (cond (bytes_eq q (name x)) (Some i) None)
place_more name [] i x q h e = absurd (omega arith)
place_more name (y ∷ ys) zero x q h e = rw e refl
place_more name (y ∷ ys) (suc i) x q h e =
    let b = bytes_eq q (name y) in
    let d = bytes_eq q (name x) in
    let before = option_map suc (place name (take i ys) q) in
    let k : suc i + 1 ≡ suc (i + 1) = omega arith in
    let j : i + 1 ≡ suc i = omega arith in
    ap (λ n. place name (take n (y ∷ ys)) q) k
    ∙ ap (λ o. cond b (Some 0) (option_map suc o)) (place_more name ys i x q (omega arith) e)
    ∙ ap (λ o. cond b (Some 0) o) (shifted (place name (take i ys) q) d i)
    ∙ or_first b before (cond d (Some (i + 1)) None)
    ∙ ap (λ n. option_or (cond b (Some 0) before) (cond d (Some n) None)) j

pub or_pick : {Y : Type 0} (b : Bool) (y : Y) (o p : Option Y) → cond b (Some y) (option_or o p) ≡ option_or (cond b (Some y) o) p
or_pick true y o p = refl
or_pick false y o p = refl

find_append : {Y : Type 0} (p : Y → Bool) (xs ys : List Y) → find p (xs ++ ys) ≡ option_or (find p xs) (find p ys)
find_append p [] ys = refl
find_append p (x ∷ xs) ys = ap (λ o. cond (p x) (Some x) o) (find_append p xs ys) ∙ or_pick (p x) x (find p xs) (find p ys)

pub find_more : {X Y : Type 0} (p : Y → Bool) (f : X → List Y) (xs : List X) (i : ℕ) (x : X) → i < length xs → x ≡ get_or xs i x → find p (flat_map f (drop i xs)) ≡ option_or (find p (f x)) (find p (flat_map f (drop (i + 1) xs)))
find_more p f xs i x h e =
    let rest : drop i xs ≡ x ∷ drop (i + 1) xs = drop_more xs i x h ∙ ap (λ y. y ∷ drop (i + 1) xs) (sym e) in
    ap (λ ys. find p (flat_map f ys)) rest ∙ find_append p (f x) (flat_map f (drop (i + 1) xs))

first_cond : {X : Type 0} (b : Bool) (x : X) (xs : List X) → first (cond b (x ∷ xs) xs) ≡ cond b (Some x) (first xs)
first_cond true x xs = refl
first_cond false x xs = refl

pub first_filter : {X : Type 0} (p : X → Bool) (xs : List X) → first (filter p xs) ≡ find p xs
first_filter p [] = refl
first_filter p (x ∷ xs) = first_cond (p x) x (filter p xs) ∙ ap (λ o. cond (p x) (Some x) o) (first_filter p xs)

pub find_hit : {Y : Type 0} (p : Y → Bool) (xs : List Y) (i : ℕ) (x : Y) → i < length xs → x ≡ get_or xs i x → p x ≡ true → Some x ≡ find p (drop i xs)
find_hit p xs i x h e hit =
    let rest : drop i xs ≡ x ∷ drop (i + 1) xs = drop_more xs i x h ∙ ap (λ y. y ∷ drop (i + 1) xs) (sym e) in
    rw (rest, hit) refl

pub find_miss : {Y : Type 0} (p : Y → Bool) (xs : List Y) (i : ℕ) (x : Y) → i < length xs → x ≡ get_or xs i x → p x ≡ false → find p (drop (i + 1) xs) ≡ find p (drop i xs)
find_miss p xs i x h e miss =
    let rest : drop i xs ≡ x ∷ drop (i + 1) xs = drop_more xs i x h ∙ ap (λ y. y ∷ drop (i + 1) xs) (sym e) in
    rw (rest, miss) refl

pub or_here : {Y : Type 0} (o p q : Option Y) → o ≡ q → is_some o ≡ true → o ≡ option_or q p
or_here None p q e h = cc
or_here (Some x) p q e h = rw (← e) refl

pub or_there : {Y : Type 0} (o p q : Option Y) → o ≡ q → is_some o ≡ false → p ≡ option_or q p
or_there None p q e h = rw (← e) refl
or_there (Some x) p q e h = cc

pub find_end : {X Y : Type 0} (p : Y → Bool) (f : X → List Y) (xs : List X) (i : ℕ) → length xs ≤ i → None ≡ find p (flat_map f (drop i xs))
find_end p f xs i h = rw (drop_of_length-le xs h) refl

within_cond : (b : Bool) (o : Option ℕ) (n : ℕ) → IfSome o (λ k. k < n) → IfSome (cond b (Some 0) (option_map suc o)) (λ k. k < suc n)
within_cond true o n h = omega arith
within_cond false None n h = h
within_cond false (Some k) n h = omega (arith, h)

pub place_within : {X : Type 0} (name : X → List ℕ) (rows : List X) (q : List ℕ) → IfSome (place name rows q) (λ k. k < length rows)
place_within name [] q = tt
place_within name (y ∷ ys) q = within_cond (bytes_eq q (name y)) (place name ys q) (length ys) (place_within name ys q)

weaker : (o : Option ℕ) (n : ℕ) → n ≤ 1024 → IfSome o (λ k. k < n) → IfSome o (λ k. k < 2 ^ 32)
weaker None n le h = h
weaker (Some k) n le h = omega (arith, h)

-- places in a short list are small
pub place_small : {X : Type 0} (name : X → List ℕ) (rows : List X) (q : List ℕ) (o : Option ℕ) → o ≡ place name rows q → length rows ≤ 1024 → IfSome o (λ k. k < 2 ^ 32)
place_small name rows q o e le = weaker o (length rows) le (rw e (place_within name rows q))
