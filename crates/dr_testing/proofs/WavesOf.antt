-- The waves of a plan ascend, and each has all machines of its priority and depth.
use Rattle.std.proofs.Common.{◌≡◌, ◌≢◌, ℕ, zero, suc, ◌+◌, ◌≤◌, ◌<◌, ◌⊎◌, inl, inr, Bool, true, false, cond, ◌&&◌, ◌==◌, List, [], ◌∷◌, ◌++◌, length, get_or, map, filter, flat_map, Some, refl, sym, ◌∙◌, ap, subst, arith, add-one}
use Rattle.std.proofs.lemmas.Bool.{cases_eq, eq-eqb, eqb-true}
use Rattle.std.proofs.lemmas.List.{get_or_default}
use Rattle.std.proofs.lemmas.List.Elements.{All-contains, Contains-get_or, Contains-append_cases, Contains-append_left, Contains-append_right}
use Rattle.std.proofs.lemmas.Option.{get_or_from_slice_get, slice_get_within}
use Rattle.std.specs.Prelude.{slice_get, Contains}
use Rattle.std.specs.List.{range_with_len}
use Rattle.std.specs.List.Sorted.{IsStrictlyIncreasing}
use Rattle.dr_plan.specs.declared.plan.Plan.{Plan}
use Rattle.dr_plan.specs.declared.plan.PlanMachine.{PlanMachine}
use Rattle.dr_plan.specs.declared.plan.Wave.{Wave}
use Rattle.dr_plan.specs.Orders.{IsOrdered, IsPriority, AreWaves, IsWave, HasIn, IsEarlierWave}
use Rattle.dr_plan.specs.Waves.{above, machines_at, wave_of, wave_at, waves_at, waves_of}

no_element : {X : Type 0} (x : X) → Contains [] x → ⊥
no_element x c = absurd (omega (arith, c.1))

one_more : {X : Type 0} (y : X) (xs : List X) (x : X) → Contains xs x → Contains (y ∷ xs) x
one_more y xs x c = Contains-append_right (y ∷ []) xs x c

first_or_later : {X : Type 0} (y : X) (xs : List X) (x : X) → Contains (y ∷ xs) x → (y ≡ x) ⊎ Contains xs x
first_or_later y xs x (zero, l, is) = inl is
first_or_later y xs x (suc k, l, is) = inr (k, omega (arith, l), is)

-- each wave comes before those after it
abbrev Ascend : List Wave → Type 0
Ascend [] = Unit {0}
Ascend (v ∷ ws) = ((w : Wave) → Contains ws w → IsEarlierWave v w) × Ascend ws

ascend_append : (xs ys : List Wave) → Ascend xs → Ascend ys → ((v w : Wave) → Contains xs v → Contains ys w → IsEarlierWave v w) → Ascend (xs ++ ys)
ascend_append [] ys ax ay cross = ay
ascend_append (x ∷ xs) ys ax ay cross = (
  (λ w c. elim (Contains-append_cases xs ys w c) [ inl a ↦ ax.0 w a | inr b ↦ cross x w (0, omega arith, refl) b ]),
  ascend_append xs ys ax.1 ay (λ v w a b. cross v w (one_more x xs v a) b),
)

at_places : (ws : List Wave) → Ascend ws → (i j : ℕ) (v w : Wave) → i < j → slice_get ws i ≡ Some v → slice_get ws j ≡ Some w → IsEarlierWave v w
at_places [] a i j v w lt hv hw = absurd cc
at_places (x ∷ xs) a i zero v w lt hv hw = absurd (omega (arith, lt))
at_places (x ∷ xs) a zero (suc j) v w lt hv hw =
    let same : x ≡ v = cc in
    subst (λ u. IsEarlierWave u w) same (a.0 w (j, slice_get_within xs j w hw, get_or_from_slice_get xs j w w hw))
at_places (x ∷ xs) a (suc i) (suc j) v w lt hv hw = at_places xs a.1 i j v w (omega (arith, lt)) hv hw

-- waves that each of some numbers gives
module _ (F : ℕ → List Wave) where
  reach : (count a n : ℕ) (w : Wave) → a ≤ n → n < a + count → Contains (F n) w → Contains (flat_map F (range_with_len a count)) w
  reach zero a n w low high c = absurd (omega (arith, low, high))
  reach (suc count) a n w low high c = elim (cases_eq n a) [
    | inl e ↦ Contains-append_left (F a) (flat_map F (range_with_len (a + 1) count)) w (subst (λ k. Contains (F k) w) e c)
    | inr ne ↦ Contains-append_right (F a) (flat_map F (range_with_len (a + 1) count)) w (reach count (a + 1) n w (omega (arith, low, ne)) (omega (arith, high)) c)
  ]

  found : (count a : ℕ) (w : Wave) → Contains (flat_map F (range_with_len a count)) w → (n : ℕ) × (a ≤ n) × (n < a + count) × Contains (F n) w
  found zero a w c = absurd (no_element w c)
  found (suc count) a w c = elim (Contains-append_cases (F a) (flat_map F (range_with_len (a + 1) count)) w c) [
    | inl here ↦ (a, omega arith, omega arith, here)
    | inr there ↦
        let it : (n : ℕ) × (a + 1 ≤ n) × (n < a + 1 + count) × Contains (F n) w = found count (a + 1) w there in
        (it.0, omega (arith, it.1), omega (arith, it.2), it.3)
  ]

  ascend_range : ((n : ℕ) → Ascend (F n)) → ((n m : ℕ) (v w : Wave) → n < m → Contains (F n) v → Contains (F m) w → IsEarlierWave v w) → (count a : ℕ) → Ascend (flat_map F (range_with_len a count))
  ascend_range each apart zero a = tt
  ascend_range each apart (suc count) a =
      ascend_append (F a) (flat_map F (range_with_len (a + 1) count)) (each a) (ascend_range each apart count (a + 1))
      (λ v w cv cw. let it : (n : ℕ) × (a + 1 ≤ n) × (n < a + 1 + count) × Contains (F n) w = found count (a + 1) w cw in apart a it.0 v w (omega (arith, it.1)) cv it.3)

-- what a wave of a priority and a depth is
record IsWaveHere (ms : List PlanMachine) (p d : ℕ) (w : Wave) : Type 0 where
  priority : w.priority ≡ p
  depth : w.depth ≡ d
  machines : w.machines ≡ machines_at ms p d
  some : w.machines ≢ []

here_is : (ms : List PlanMachine) (p d : ℕ) (w : Wave) → Contains (wave_at ms p d) w → IsWaveHere ms p d w
here_is ms p d w c = go (machines_at ms p d) refl c
  where
    go : (list : List ℕ) → machines_at ms p d ≡ list → Contains (wave_of p d list) w → IsWaveHere ms p d w
    go [] is c = absurd (no_element w c)
    go (k ∷ ks) is c = elim (first_or_later (record { priority = p; depth = d; machines = k ∷ ks }) [] w c) [
      | inl e ↦ subst (IsWaveHere ms p d) e (record { priority = refl; depth = refl; machines = sym is; some = λ h. absurd (let l : length (k ∷ ks) ≡ 0 = ap length h in omega (arith, l)) })
      | inr none ↦ absurd (no_element w none)
    ]

one_wave : (p d : ℕ) (list : List ℕ) → Ascend (wave_of p d list)
one_wave p d [] = tt
one_wave p d (k ∷ ks) = ((λ w c. absurd (no_element w c)), tt)

has_wave : (p d : ℕ) (list : List ℕ) (k : ℕ) → Contains list k → Contains (wave_of p d list) (record { priority = p; depth = d; machines = list })
has_wave p d [] k c = absurd (no_element k c)
has_wave p d (n ∷ ns) k c = (0, omega arith, refl)

module _ (p d : ℕ) where
  abbrev test : PlanMachine → Bool
  test m = (m.priority == p) && (m.depth == d)

  passes : (m : PlanMachine) → m.priority ≡ p → m.depth ≡ d → test m ≡ true
  passes m ep ed = rw (eq-eqb _ _ ep, eq-eqb _ _ ed) refl

  passed : (m : PlanMachine) → test m ≡ true → (m.priority ≡ p) × (m.depth ≡ d)
  passed m h = go (m.priority == p) (m.depth == d) refl refl h
    where
      go : (a b : Bool) → (m.priority == p) ≡ a → (m.depth == d) ≡ b → (a && b) ≡ true → (m.priority ≡ p) × (m.depth ≡ d)
      go true true ea eb h = (eqb-true _ _ ea, eqb-true _ _ eb)
      go true false ea eb h = absurd cc
      go false b ea eb h = absurd cc

  abbrev numbers : List PlanMachine → List ℕ
  numbers ms = map (λ m. m.machine) ms

  all_at : (ms : List PlanMachine) (m : PlanMachine) → Contains ms m → test m ≡ true → Contains (machines_at ms p d) m.machine
  all_at [] m c h = absurd (no_element m c)
  all_at (x ∷ xs) m c h = elim (first_or_later x xs m c) [
    | inl e ↦ let hx : test x ≡ true = subst (λ y. test y ≡ true) (sym e) h in rw hx (0, omega arith, ap (λ (y : PlanMachine). y.machine) e)
    | inr later ↦ go (test x) refl (all_at xs m later h)
  ]
    where
      go : (b : Bool) → test x ≡ b → Contains (machines_at xs p d) m.machine → Contains (numbers (cond (test x) (x ∷ filter test xs) (filter test xs))) m.machine
      go true e c = rw e (one_more x.machine (machines_at xs p d) m.machine c)
      go false e c = rw e c

  -- the machine of a number
  record IsFrom (ms : List PlanMachine) (k : ℕ) : Type 0 where
    entry : PlanMachine
    listed : Contains ms entry
    number : entry.machine ≡ k
    passes_it : test entry ≡ true

  wider : (x : PlanMachine) (xs : List PlanMachine) (k : ℕ) → IsFrom xs k → IsFrom (x ∷ xs) k
  wider x xs k f = record { entry = f.entry; listed = one_more x xs f.entry f.listed; number = f.number; passes_it = f.passes_it }

  only_at : (ms : List PlanMachine) (k : ℕ) → Contains (machines_at ms p d) k → IsFrom ms k
  only_at [] k c = absurd (no_element k c)
  only_at (x ∷ xs) k c = go (test x) refl c (only_at xs k)
    where
      go : (b : Bool) → test x ≡ b → Contains (numbers (cond b (x ∷ filter test xs) (filter test xs))) k → (Contains (machines_at xs p d) k → IsFrom xs k) → IsFrom (x ∷ xs) k
      go true e c rest = elim (first_or_later x.machine (machines_at xs p d) k c) [
        | inl is ↦ record { entry = x; listed = (0, omega arith, refl); number = is; passes_it = e }
        | inr later ↦ wider x xs k (rest later)
      ]
      go false e c rest = wider x xs k (rest c)

-- numbers that ascend, from the front
abbrev Rise : List ℕ → Type 0
Rise [] = Unit {0}
Rise (n ∷ ns) = ((k : ℕ) → Contains ns k → n < k) × Rise ns

first_below : (n : ℕ) (ns : List ℕ) → IsStrictlyIncreasing (n ∷ ns) → (i : ℕ) → i < length ns → n < get_or ns i 0
first_below n ns up zero l = up 0 (omega (arith, l))
first_below n ns up (suc i) l =
    let before : n < get_or ns i 0 = first_below n ns up i (omega (arith, l)) in
    let next : get_or ns i 0 < get_or ns (suc i) 0 = rw add-one at (up (suc i) (omega (arith, l))) in
    omega (arith, before, next)

rise_of : (ns : List ℕ) → IsStrictlyIncreasing ns → Rise ns
rise_of [] up = tt
rise_of (n ∷ ns) up = (
  (λ k c. subst (λ m. n < m) (get_or_default ns c.0 0 k c.1 ∙ c.2) (first_below n ns up c.0 c.1)),
  rise_of ns (λ i l. let step : get_or ns i 0 < get_or ns (suc i) 0 = rw add-one at (up (suc i) (omega (arith, l))) in rw add-one step),
)

rises : (ns : List ℕ) → Rise ns → IsStrictlyIncreasing ns
rises [] up i l = absurd (omega (arith, l))
rises (n ∷ ns) up zero l = up.0 (get_or ns 0 0) (Contains-get_or ns 0 0 (omega (arith, l)))
rises (n ∷ ns) up (suc i) l = let step : get_or ns i 0 < get_or ns (suc i) 0 = rw add-one at (rises ns up.1 i (omega (arith, l))) in rw add-one step

contains_map : (xs : List PlanMachine) (m : PlanMachine) → Contains xs m → Contains (map (λ (x : PlanMachine). x.machine) xs) m.machine
contains_map [] m c = absurd (no_element m c)
contains_map (x ∷ xs) m c = elim (first_or_later x xs m c) [
  | inl e ↦ (0, omega arith, ap (λ (y : PlanMachine). y.machine) e)
  | inr later ↦ one_more x.machine (map (λ (y : PlanMachine). y.machine) xs) m.machine (contains_map xs m later)
]

rise_filter : (p d : ℕ) (ms : List PlanMachine) → Rise (map (λ m. m.machine) ms) → Rise (machines_at ms p d)
rise_filter p d [] up = tt
rise_filter p d (x ∷ xs) up = go (test p d x) refl (rise_filter p d xs up.1)
  where
    among : (k : ℕ) → Contains (machines_at xs p d) k → Contains (map (λ (m : PlanMachine). m.machine) xs) k
    among k c = let f : IsFrom p d xs k = only_at p d xs k c in subst (Contains (map (λ (m : PlanMachine). m.machine) xs)) f.number (contains_map xs f.entry f.listed)

    go : (b : Bool) → test p d x ≡ b → Rise (machines_at xs p d) → Rise (map (λ (m : PlanMachine). m.machine) (cond (test p d x) (x ∷ filter (test p d) xs) (filter (test p d) xs)))
    go true e rest = rw e ((λ k c. up.0 k (among k c)), rest)
    go false e rest = rw e rest

below_above : (ms : List PlanMachine) (m : PlanMachine) → Contains ms m → m.depth < above (map (λ x. x.depth) ms)
below_above [] m c = absurd (no_element m c)
below_above (x ∷ xs) m c = elim (first_or_later x xs m c) [
  | inl e ↦ omega (arith, ap (λ (y : PlanMachine). y.depth) e)
  | inr later ↦ omega (arith, below_above xs m later)
]

module _ (plan : Plan) (ordered : IsOrdered plan) where
  abbrev ms : List PlanMachine
  ms = plan.machines

  ascend_at : (p : ℕ) → Ascend (waves_at ms p)
  ascend_at p = ascend_range (wave_at ms p) (λ d. one_wave p d (machines_at ms p d))
      (λ n m v w lt cv cw. inr ((here_is ms p n v cv).priority ∙ sym (here_is ms p m w cw).priority, omega (arith, (here_is ms p n v cv).depth, (here_is ms p m w cw).depth, lt)))
      (above (map (λ x. x.depth) ms)) 0

  at_priority : (p : ℕ) (w : Wave) → Contains (waves_at ms p) w → (d : ℕ) × IsWaveHere ms p d w
  at_priority p w c =
      let it : (d : ℕ) × (0 ≤ d) × (d < 0 + above (map (λ x. x.depth) ms)) × Contains (wave_at ms p d) w = found (wave_at ms p) (above (map (λ x. x.depth) ms)) 0 w c in
      (it.0, here_is ms p it.0 w it.3)

  ascend_all : Ascend (waves_of plan)
  ascend_all = ascend_range (waves_at ms) ascend_at
      (λ n m v w lt cv cw. inl (omega (arith, (at_priority n v cv).1.priority, (at_priority m w cw).1.priority, lt)))
      5 1

  wave_is : (p d : ℕ) (w : Wave) → IsWaveHere ms p d w → IsWave plan w
  wave_is p d w h = record {
    ascending = rw h.machines (rises (machines_at ms p d) (rise_filter p d ms (rise_of (map (λ m. m.machine) ms) ordered.ascending)));
    only = λ k c.
        let f : IsFrom p d ms k = only_at p d ms k (subst (λ xs. Contains xs k) h.machines c) in
        record { entry = f.entry; listed = f.listed; number = f.number; same_priority = (passed p d f.entry f.passes_it).0 ∙ sym h.priority; same_depth = (passed p d f.entry f.passes_it).1 ∙ sym h.depth };
    all = λ k at. subst (λ xs. Contains xs k) (sym h.machines) (subst (Contains (machines_at ms p d)) at.number (all_at p d ms at.entry at.listed (passes p d at.entry (at.same_priority ∙ h.priority) (at.same_depth ∙ h.depth))));
    some = h.some;
  }

  each_wave : (w : Wave) → Contains (waves_of plan) w → IsWave plan w
  each_wave w c =
      let it : (p : ℕ) × (1 ≤ p) × (p < 1 + 5) × Contains (waves_at ms p) w = found (waves_at ms) 5 1 w c in
      let h : (d : ℕ) × IsWaveHere ms it.0 d w = at_priority it.0 w it.3 in
      wave_is it.0 h.0 w h.1

  complete : (m : PlanMachine) → Contains plan.machines m → HasIn (waves_of plan) m.priority m.depth m.machine
  complete m c =
      let range : IsPriority m.priority = All-contains (λ (x : PlanMachine). IsPriority x.priority) ms m ordered.priorities c in
      let there : Contains (machines_at ms m.priority m.depth) m.machine = all_at m.priority m.depth ms m c (passes m.priority m.depth m refl refl) in
      record {
        wave = record { priority = m.priority; depth = m.depth; machines = machines_at ms m.priority m.depth };
        listed = reach (waves_at ms) 5 1 m.priority _ range.least (omega (arith, range.greatest))
            (reach (wave_at ms m.priority) (above (map (λ x. x.depth) ms)) 0 m.depth _ (omega arith) (omega (arith, below_above ms m c)) (has_wave m.priority m.depth (machines_at ms m.priority m.depth) m.machine there));
        same_priority = refl;
        same_depth = refl;
        of_wave = there;
      }

-- the waves of a plan
pub waves_are : (plan : Plan) → IsOrdered plan → AreWaves plan (waves_of plan)
waves_are plan ordered = record {
  in_order = at_places (waves_of plan) (ascend_all plan ordered);
  each = λ k d l. each_wave plan ordered (get_or (waves_of plan) k d) (Contains-get_or (waves_of plan) k d l);
  complete = complete plan ordered;
}
