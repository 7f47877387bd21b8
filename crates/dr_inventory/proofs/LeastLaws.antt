-- The least devices of consistency groups.
use Rattle.std.proofs.Common.{◌≡◌, ℕ, ◌+◌, ◌<◌, ◌≤◌, ◌^◌, Bool, true, false, cond, ◌||◌, List, [], ◌∷◌, ◌++◌, length, map, fold, min, take, get_or, Option, Some, None, unwrap_or, IfSome, refl, sym, ap, ◌∙◌, arith}
use Rattle.std.specs.Option.{option_or}
use Rattle.std.proofs.lemmas.List.{take_more, map-append}
use Rattle.dr_inventory.specs.declared.document.ConsistencyEntry.{ConsistencyEntry}
use Rattle.dr_inventory.specs.Names.{is_name_of}
use Rattle.dr_inventory.specs.Numbers.{least, least_in}
use Rattle.dr_inventory.proofs.PlaceLaws.{or_pick}

-- what one group more adds
added : (f : List ℕ → ℕ) (cs : List ConsistencyEntry) (c : ConsistencyEntry) (q : List ℕ)
    → least_in f (cs ++ c ∷ []) q ≡ option_or (least_in f cs q) (cond (is_name_of (λ n. n) q c.devices) (Some (least (map f c.devices))) None)
added f [] c q = refl
added f (x ∷ cs) c q =
    let b = is_name_of (λ n. n) q x.devices in
    ap (λ o. cond b (Some (least (map f x.devices))) o) (added f cs c q)
    ∙ or_pick b (least (map f x.devices)) (least_in f cs q) (cond (is_name_of (λ n. n) q c.devices) (Some (least (map f c.devices))) None)

pub least_more : (f : List ℕ → ℕ) (cs : List ConsistencyEntry) (i : ℕ) (c : ConsistencyEntry) (q : List ℕ) → i < length cs → c ≡ get_or cs i c
    → least_in f (take (i + 1) cs) q ≡ option_or (least_in f (take i cs) q) (cond (is_name_of (λ n. n) q c.devices) (Some (least (map f c.devices))) None)
least_more f cs i c q h e =
    let before : take (i + 1) cs ≡ take i cs ++ c ∷ [] = take_more cs i c h ∙ ap (λ y. take i cs ++ y ∷ []) (sym e) in
    ap (λ xs. least_in f xs q) before ∙ added f (take i cs) c q

-- a number for one name more
pub noted_twice : (o : Option ℕ) (b c : Bool) (n : ℕ) → option_or (option_or o (cond b (Some n) None)) (cond c (Some n) None) ≡ option_or o (cond (b || c) (Some n) None)
noted_twice None true c n = refl
noted_twice None false c n = refl
noted_twice (Some k) b c n = refl

at_most_first : (k : ℕ) (ns : List ℕ) → fold min k ns ≤ k
at_most_first k [] = omega arith
at_most_first k (n ∷ ns) = omega (arith, at_most_first (min k n) ns)

least_small : (f : List ℕ → ℕ) (most : ℕ) → 0 < most → ((n : List ℕ) → f n < most) → (ns : List (List ℕ)) → least (map f ns) < most
least_small f most some small [] = some
least_small f most some small (n ∷ ns) = omega (arith, at_most_first (f n) (map f ns), small n)

either : (b : Bool) (k most : ℕ) (o : Option ℕ) → k < most → IfSome o (λ n. n < most) → IfSome (cond b (Some k) o) (λ n. n < most)
either true k most o here there = here
either false k most o here there = there

pub least_in_small : (f : List ℕ → ℕ) (most : ℕ) → 0 < most → ((n : List ℕ) → f n < most) → (cs : List ConsistencyEntry) (q : List ℕ) → IfSome (least_in f cs q) (λ n. n < most)
least_in_small f most some small [] q = tt
least_in_small f most some small (c ∷ cs) q =
    either (is_name_of (λ n. n) q c.devices) (least (map f c.devices)) most (least_in f cs q) (least_small f most some small c.devices) (least_in_small f most some small cs q)

pub default_small : (o : Option ℕ) → IfSome o (λ n. n < 2 ^ 32) → unwrap_or o 0 < 2 ^ 32
default_small None h = omega arith
default_small (Some k) h = h

pub mapped_more : {X : Type 0} (f : X → ℕ) (xs : List X) (i : ℕ) (x : X) → i < length xs → x ≡ get_or xs i x → map f (take (i + 1) xs) ≡ map f (take i xs) ++ f x ∷ []
mapped_more f xs i x h e = ap (map f) (take_more xs i x h ∙ ap (λ y. take i xs ++ y ∷ []) (sym e)) ∙ map-append f (take i xs) (x ∷ [])
