-- Machines by depth, and the waves of them.
use Rattle.std.proofs.Common.{◌≡◌, ◌≢◌, ◌∙◌, ℕ, zero, suc, ◌+◌, ◌-◌, ◌<◌, ◌≤◌, max, replicate, Bool, true, false, cond, ◌&&◌, ◌==◌, List, [], ◌∷◌, ◌++◌, length, get_or, set, take, drop, map, filter, flat_map, inl, inr, refl, sym, ap, arith, length-set}
use Rattle.std.specs.List.{range_with_len}
use Rattle.std.proofs.lemmas.Bool.{cases_eq}
use Rattle.std.proofs.lemmas.List.{flat_map_more, map-append, map_push, take_more, drop_more, drop_all, replicate_more, get_or-set_same, get_or-set_other, append-nil}
use Rattle.std.proofs.lemmas.List.Elements.{filter_more}
use Rattle.std.proofs.lemmas.List.FromFn.{fill_by_all, get_or-map-range_with_len, length-map-range_with_len}
use Rattle.dr_plan.specs.declared.plan.PlanMachine.{PlanMachine}
use Rattle.dr_plan.specs.Waves.{above, machines_at, wave_of, waves_at}
use Rattle.dr_plan.specs.Lists.{waves_from}

pub above-push : (ns : List ℕ) (n : ℕ) → above (ns ++ n ∷ []) ≡ max (above ns) (n + 1)
above-push [] n = omega arith
above-push (m ∷ ns) n = rw (above-push ns n) (omega arith)

pub depths_more : (xs : List PlanMachine) (i : ℕ) (x : PlanMachine) → i < length xs → x ≡ get_or xs i x
    → above (map (λ m. m.depth) (take (i + 1) xs)) ≡ max (above (map (λ m. m.depth) (take i xs))) (x.depth + 1)
depths_more xs i x h e =
    let depth : PlanMachine → ℕ = λ m. m.depth in
    ap (λ ys. above (map depth ys)) (take_more xs i x h ∙ ap (λ y. take i xs ++ y ∷ []) (sym e))
    ∙ ap above (map_push depth (take i xs) x) ∙ above-push (map depth (take i xs)) x.depth

machine_cond : (b : Bool) (x : PlanMachine) → map (λ (m : PlanMachine). m.machine) (cond b (x ∷ []) []) ≡ cond b (x.machine ∷ []) []
machine_cond true x = refl
machine_cond false x = refl

-- one machine more
pub machines_more : (xs : List PlanMachine) (i : ℕ) (x : PlanMachine) (p d : ℕ) → i < length xs → x ≡ get_or xs i x
    → machines_at (take (i + 1) xs) p d ≡ machines_at (take i xs) p d ++ cond ((x.priority == p) && (x.depth == d)) (x.machine ∷ []) []
machines_more xs i x p d h e =
    let has : PlanMachine → Bool = λ m. (m.priority == p) && (m.depth == d) in
    let number : PlanMachine → ℕ = λ m. m.machine in
    ap (map number) (filter_more has xs i x h ∙ ap (λ y. filter has (take i xs) ++ cond (has y) (y ∷ []) []) (sym e))
    ∙ map-append number (filter has (take i xs)) (cond (has x) (x ∷ []) [])
    ∙ ap (λ ys. machines_at (take i xs) p d ++ ys) (machine_cond (has x) x)

and_false : (b : Bool) → (b && false) ≡ false
and_false true = refl
and_false false = refl

skipped : (xs : List PlanMachine) (i : ℕ) (x : PlanMachine) (p d : ℕ) → i < length xs → x ≡ get_or xs i x → ((x.priority == p) && (x.depth == d)) ≡ false
    → machines_at (take (i + 1) xs) p d ≡ machines_at (take i xs) p d
skipped xs i x p d h e no_more = machines_more xs i x p d h e ∙ ap (λ b. machines_at (take i xs) p d ++ cond b (x.machine ∷ []) []) no_more ∙ append-nil (machines_at (take i xs) p d)

pub eq_false : (a b : ℕ) → a ≢ b → (a == b) ≡ false
eq_false a b apart = grind arith

pub eq_true : (a : ℕ) → (a == a) ≡ true
eq_true a = grind arith

-- a machine of another priority changes no list
pub lists_same : (xs : List PlanMachine) (i : ℕ) (x : PlanMachine) (p n : ℕ) (lists : List (List ℕ)) → i < length xs → x ≡ get_or xs i x → x.priority ≢ p
    → lists ≡ map (machines_at (take i xs) p) (range_with_len 0 n) → lists ≡ map (machines_at (take (i + 1) xs) p) (range_with_len 0 n)
lists_same xs i x p n lists h e other so_far =
    fill_by_all (machines_at (take (i + 1) xs) p) lists n [] (ap length so_far ∙ length-map-range_with_len (machines_at (take i xs) p) 0 n)
    (λ k below. ap (λ ys. get_or ys k []) so_far ∙ get_or-map-range_with_len (machines_at (take i xs) p) 0 n k k [] below (omega arith)
    ∙ sym (skipped xs i x p k h e (rw (eq_false x.priority p other) refl)))

-- a machine of this priority goes to the end of its depth's list
pub lists_more : (xs : List PlanMachine) (i : ℕ) (x : PlanMachine) (p n : ℕ) (lists new : List (List ℕ)) → i < length xs → x ≡ get_or xs i x → x.priority ≡ p → x.depth < n
    → lists ≡ map (machines_at (take i xs) p) (range_with_len 0 n) → new ≡ set lists x.depth (get_or lists x.depth [] ++ x.machine ∷ [])
    → new ≡ map (machines_at (take (i + 1) xs) p) (range_with_len 0 n)
lists_more xs i x p n lists new h e same within so_far added =
    let before = machines_at (take i xs) p in
    let long : length lists ≡ n = ap length so_far ∙ length-map-range_with_len before 0 n in
    let old : (k : ℕ) → k < n → get_or lists k [] ≡ before k = λ k below. ap (λ ys. get_or ys k []) so_far ∙ get_or-map-range_with_len before 0 n k k [] below (omega arith) in
    fill_by_all (machines_at (take (i + 1) xs) p) new n [] (ap length added ∙ length-set lists x.depth (get_or lists x.depth [] ++ x.machine ∷ []) ∙ long)
    (λ k below. ap (λ ys. get_or ys k []) added ∙ elim (cases_eq k x.depth) as (λ _. get_or (set lists x.depth (get_or lists x.depth [] ++ x.machine ∷ [])) k [] ≡ machines_at (take (i + 1) xs) p k) [
      | inl here ↦ rw here (get_or-set_same lists x.depth (get_or lists x.depth [] ++ x.machine ∷ []) [] (omega (arith, long))
          ∙ ap (λ ys. ys ++ x.machine ∷ []) (old x.depth within)
          ∙ sym (machines_more xs i x p x.depth h e ∙ rw (same, eq_true p, eq_true x.depth) refl))
      | inr apart ↦ get_or-set_other lists x.depth k (get_or lists x.depth [] ++ x.machine ∷ []) [] apart ∙ old k below
          ∙ sym (skipped xs i x p k h e (rw (eq_false x.depth k (λ q. apart (sym q))) (and_false (x.priority == p))))
    ])

-- an empty list more
pub no_lists_more : (xs : List (List ℕ)) (i : ℕ) → xs ≡ replicate i [] → xs ++ [] ∷ [] ≡ replicate (i + 1) []
no_lists_more xs i so_far = ap (λ ys. ys ++ [] ∷ []) so_far ∙ replicate_more i []

-- empty lists hold what none of the machines have
none_at : (f : ℕ → List ℕ) (a n : ℕ) → ((k : ℕ) → f k ≡ []) → replicate n [] ≡ map f (range_with_len a n)
none_at f a zero none = refl
none_at f a (suc n) none = rw (none a) (ap (λ ys. [] ∷ ys) (none_at f (a + 1) n none))

pub no_machines : (p n : ℕ) (lists : List (List ℕ)) → lists ≡ replicate n [] → lists ≡ map (machines_at [] p) (range_with_len 0 n)
no_machines p n lists empty = empty ∙ none_at (machines_at [] p) 0 n (λ k. refl)

pub waves_more : (p i : ℕ) (lists : List (List ℕ)) (list : List ℕ) → i < length lists → list ≡ get_or lists i [] → waves_from p i (drop i lists) ≡ wave_of p i list ++ waves_from p (i + 1) (drop (i + 1) lists)
unfolding waves_from
waves_more p i lists list h e = rw (drop_more lists i [] h, e) refl

pub waves_done : (p i : ℕ) (lists : List (List ℕ)) → length lists ≤ i → waves_from p i (drop i lists) ≡ []
unfolding waves_from
waves_done p i lists h = rw (drop_all i lists h) refl

-- the waves of lists by depth are those of each depth
pub waves_by_depth : (p a n : ℕ) (f : ℕ → List ℕ) → waves_from p a (map f (range_with_len a n)) ≡ flat_map (λ d. wave_of p d (f d)) (range_with_len a n)
unfolding waves_from
waves_by_depth p a zero f = refl
waves_by_depth p a (suc n) f = ap (λ ws. wave_of p a (f a) ++ ws) (waves_by_depth p (a + 1) n f)

pub depth_below : (xs : List PlanMachine) (i : ℕ) (x : PlanMachine) → i < length xs → x ≡ get_or xs i x → x.depth < above (map (λ m. m.depth) xs)
depth_below [] i x h e = absurd (omega arith)
depth_below (y ∷ ys) zero x h e = let d : x.depth ≡ y.depth = ap (λ m. m.depth) e in omega (arith, d)
depth_below (y ∷ ys) (suc i) x h e = let r : x.depth < above (map (λ m. m.depth) ys) = depth_below ys i x (omega arith) e in omega (arith, r)

pub range_more : (a n : ℕ) → range_with_len a (suc n) ≡ range_with_len a n ++ (a + n) ∷ []
range_more a zero = let e : a ≡ a + 0 = omega arith in ap (λ k. k ∷ []) e
range_more a (suc n) = ap (λ ks. a ∷ ks) (range_more (a + 1) n ∙ (let e : a + 1 + n ≡ a + suc n = omega arith in ap (λ k. range_with_len (a + 1) n ++ k ∷ []) e))

-- the waves of one priority more
pub priority_more : (xs : List PlanMachine) (p : ℕ) → 1 ≤ p → flat_map (waves_at xs) (range_with_len 1 (p - 1)) ++ waves_at xs p ≡ flat_map (waves_at xs) (range_with_len 1 (p + 1 - 1))
priority_more xs p positive =
    let next : p + 1 - 1 ≡ suc (p - 1) = omega arith in
    let here : 1 + (p - 1) ≡ p = omega arith in
    flat_map_more (waves_at xs) [] (range_with_len 1 (p - 1)) p
    ∙ ap (λ k. flat_map (waves_at xs) (range_with_len 1 (p - 1) ++ k ∷ [])) (sym here)
    ∙ ap (flat_map (waves_at xs)) (sym (range_more 1 (p - 1)))
    ∙ ap (λ n. flat_map (waves_at xs) (range_with_len 1 n)) (sym next)
