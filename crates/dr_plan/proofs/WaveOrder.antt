-- The waves of an ordered plan.
use Rattle.std.proofs.Common.{◌≡◌, ◌≢◌, ◌∙◌, ℕ, zero, suc, ◌+◌, ◌-◌, ◌<◌, ◌≤◌, ◌⊎◌, ◌&&◌, ◌==◌, Bool, true, false, cond, List, [], ◌∷◌, ◌++◌, length, get_or, map, filter, flat_map, inl, inr, refl, sym, ap, subst, arith, length-append}
use Rattle.std.specs.List.{All, AllPairs, Contains}
use Rattle.std.specs.List.Sorted.{IsStrictlyIncreasing}
use Rattle.std.proofs.lemmas.Bool.{cases_lt}
use Rattle.std.proofs.lemmas.Bool.Decides.{nat_tests}
use Rattle.std.proofs.lemmas.List.{get_or_default, get_or-map, length-map, get_or_append_left, get_or-append_right}
use Rattle.std.proofs.lemmas.List.Kept.{AllPairs-from_increasing, AllPairs-filter}
use Rattle.std.proofs.lemmas.List.Elements.{All-contains, All-filter, All-contains_itself, Contains-get_or, Contains-append_left, Contains-append_right, Contains-append_cases, filter_passes}
use Rattle.std.proofs.lemmas.Option.{slice_get_within, get_or_from_slice_get}
use Rattle.dr_plan.specs.declared.plan.PlanMachine.{PlanMachine}
use Rattle.dr_plan.specs.declared.plan.Plan.{Plan}
use Rattle.dr_plan.specs.declared.plan.Wave.{Wave}
use Rattle.dr_plan.specs.Waves.{above, machines_at, wave_of, wave_at, depths_in, waves_at, priorities, waves_of}
use Rattle.dr_plan.specs.Orders.{IsPriority, IsOrdered, IsEarlierWave, IsAt, IsWave, HasIn, AreWaves}
use Rattle.dr_plan.proofs.WaveLaws.{eq_true}
use Rattle.dr_plan.proofs.OrderLaws.{mapped_from, mapped_to, in_range, range_up}
use Rattle.dr_plan.proofs.FaultLaws.{later, tail_up}
use Rattle.dr_plan.proofs.PlanLaws.{wave_few}

nothing : {X : Type 0} (x : X) → Contains [] x → ⊥
nothing x h = omega (arith, h.1)

one_at : {X : Type 0} (y x : X) (k : ℕ) → k < 1 → get_or (y ∷ []) k x ≡ x → y ≡ x
one_at y x zero h e = e
one_at y x (suc k) h e = absurd (omega arith)

one_in : {X : Type 0} (y x : X) → Contains (y ∷ []) x → y ≡ x
one_in y x h = one_at y x h.0 h.1 h.2

in_one : {X : Type 0} (x : X) → Contains (x ∷ []) x
in_one x = (zero, omega arith, refl)

flat_from : {X Y : Type 0} (f : X → List Y) (xs : List X) (y : Y) → Contains (flat_map f xs) y → (x : X) × Contains xs x × Contains (f x) y
flat_from f [] y h = absurd (nothing y h)
flat_from f (x ∷ xs) y h = elim (Contains-append_cases (f x) (flat_map f xs) y h) [
  | inl here ↦ (x, Contains-append_left (x ∷ []) xs x (in_one x), here)
  | inr rest ↦ let r = flat_from f xs y rest in (r.0, Contains-append_right (x ∷ []) xs r.0 r.1, r.2)
]

flat_to : {X Y : Type 0} (f : X → List Y) (xs : List X) (x : X) (y : Y) → Contains xs x → Contains (f x) y → Contains (flat_map f xs) y
flat_to f [] x y h has = absurd (nothing x h)
flat_to {X} {Y} f (z ∷ zs) x y h has = elim (Contains-append_cases (z ∷ []) zs x h) [
  | inl here ↦ let P : X → Type 0 = λ w. Contains (f w) y in Contains-append_left (f z) (flat_map f zs) y (subst P (sym (one_in z x here)) has)
  | inr rest ↦ Contains-append_right (f z) (flat_map f zs) y (flat_to f zs x y rest has)
]

picked : {X : Type 0} (b : Bool) (y x : X) (rest : List X) → ((b ≡ true) × (y ≡ x)) ⊎ Contains rest x → Contains (cond b (y ∷ rest) rest) x
picked {X} true y x rest (inl e) = let P : X → Type 0 = λ n. Contains (y ∷ rest) n in subst P e.1 (Contains-append_left (y ∷ []) rest y (in_one y))
picked true y x rest (inr h) = Contains-append_right (y ∷ []) rest x h
picked false y x rest (inl e) = absurd (let f : false ≡ true = e.0 in cc)
picked false y x rest (inr h) = h

kept_in : {X : Type 0} (p : X → Bool) (xs : List X) (x : X) → Contains xs x → p x ≡ true → Contains (filter p xs) x
kept_in p [] x h passes = absurd (nothing x h)
kept_in p (y ∷ ys) x h passes = elim (Contains-append_cases (y ∷ []) ys x h) [
  | inl here ↦ picked (p y) y x (filter p ys) (inl (ap p (one_in y x here) ∙ passes, one_in y x here))
  | inr rest ↦ picked (p y) y x (filter p ys) (inr (kept_in p ys x rest passes))
]

kept_from : {X : Type 0} (p : X → Bool) (xs : List X) (x : X) → Contains (filter p xs) x → Contains xs x
kept_from p xs x h = All-contains (Contains xs) (filter p xs) x (All-filter p (Contains xs) xs (All-contains_itself xs)) h

both : (a b c d : ℕ) → ((a == b) && (c == d)) ≡ true → (a ≡ b) × (c ≡ d)
both a b c d h = (grind (arith, nat_tests, h), grind (arith, nat_tests, h))

-- the machines of a priority and a depth
at_from : (plan : Plan) (p d k : ℕ) → Contains (machines_at plan.machines p d) k → IsAt plan p d k
at_from plan p d k h =
    let has : PlanMachine → Bool = λ m. (m.priority == p) && (m.depth == d) in
    let at = mapped_from (λ (m : PlanMachine). m.machine) (filter has plan.machines) k h in
    let passes : has at.0 ≡ true = All-contains (λ m. has m ≡ true) (filter has plan.machines) at.0 (filter_passes has plan.machines) at.1 in
    let parts = both at.0.priority p at.0.depth d passes in
    record { entry = at.0; listed = kept_from has plan.machines at.0 at.1; number = at.2; same_priority = parts.0; same_depth = parts.1 }

at_to : (plan : Plan) (p d k : ℕ) → IsAt plan p d k → Contains (machines_at plan.machines p d) k
at_to plan p d k is =
    let has : PlanMachine → Bool = λ m. (m.priority == p) && (m.depth == d) in
    let passes : has is.entry ≡ true = rw (is.same_priority, is.same_depth, eq_true p, eq_true d) refl in
    let P : ℕ → Type 0 = λ n. Contains (machines_at plan.machines p d) n in
    subst P is.number (mapped_to (λ (m : PlanMachine). m.machine) (filter has plan.machines) is.entry (kept_in has plan.machines is.entry is.listed passes))

some_machine : PlanMachine
some_machine = record { machine = 0; priority = 0; depth = 0; after = []; commands = [] }

at_up : (machines : List PlanMachine) (p d : ℕ) → IsStrictlyIncreasing (map (λ m. m.machine) machines) → IsStrictlyIncreasing (machines_at machines p d)
at_up machines p d up =
    let number : PlanMachine → ℕ = λ m. m.machine in
    let has : PlanMachine → Bool = λ m. (m.priority == p) && (m.depth == d) in
    let R : PlanMachine → PlanMachine → Type 0 = λ a b. a.machine < b.machine in
    let pairs : AllPairs R machines = λ i j z lower within.
    let here : j < length (map number machines) = omega (arith, length-map machines number, within) in
    let first_in : i < length machines = omega (arith, within, lower) in
    omega (arith, AllPairs-from_increasing (map number machines) up i j 0 lower here, get_or-map number machines i z 0 first_in, get_or-map number machines j z 0 within) in
    let kept : AllPairs R (filter has machines) = AllPairs-filter R has machines pairs in
    λ k h.
    let next_in : k + 1 < length (filter has machines) = omega (arith, h, length-map (filter has machines) number) in
    let this_in : k < length (filter has machines) = omega arith in
    let step : (get_or (filter has machines) k some_machine).machine < (get_or (filter has machines) (k + 1) some_machine).machine = kept k (k + 1) some_machine (omega arith) next_in in
    omega (arith, step, get_or-map number (filter has machines) k some_machine 0 this_in, get_or-map number (filter has machines) (k + 1) some_machine 0 next_in)

-- what a wave of a priority and a depth is
record Made (plan : Plan) (p d : ℕ) (w : Wave) : Type 0 where
  priority : w.priority ≡ p
  depth : w.depth ≡ d
  machines : w.machines ≡ machines_at plan.machines p d
  some : w.machines ≢ []

not_none : (k : ℕ) (ks : List ℕ) → (k ∷ ks) ≢ []
not_none k ks = λ e. cc

made_of : (plan : Plan) (p d : ℕ) (ks : List ℕ) (w : Wave) → ks ≡ machines_at plan.machines p d → Contains (wave_of p d ks) w → Made plan p d w
made_of plan p d [] w e h = absurd (nothing w h)
made_of plan p d (k ∷ ks) w e h =
    let this : Wave = record { priority = p; depth = d; machines = k ∷ ks } in
    let P : Wave → Type 0 = λ v. Made plan p d v in
    subst P (one_in this w h) (record { priority = refl; depth = refl; machines = e; some = not_none k ks })

made : (plan : Plan) (w : Wave) → Contains (waves_of plan) w → (p : ℕ) × (d : ℕ) × Made plan p d w
made plan w h =
    let by_priority = flat_from (waves_at plan.machines) priorities w h in
    let by_depth = flat_from (wave_at plan.machines by_priority.0) (depths_in plan.machines) w by_priority.2 in
    (by_priority.0, by_depth.0, made_of plan by_priority.0 by_depth.0 (machines_at plan.machines by_priority.0 by_depth.0) w refl by_depth.2)

is_wave : (plan : Plan) (p d : ℕ) (w : Wave) → IsStrictlyIncreasing (map (λ m. m.machine) plan.machines) → Made plan p d w → IsWave plan w
is_wave plan p d w up is =
    let Up : List ℕ → Type 0 = λ xs. IsStrictlyIncreasing xs in
    let same : machines_at plan.machines w.priority w.depth ≡ machines_at plan.machines p d = ap (λ n. machines_at plan.machines n w.depth) is.priority ∙ ap (machines_at plan.machines p) is.depth in
    let own : w.machines ≡ machines_at plan.machines w.priority w.depth = is.machines ∙ sym same in
    record {
      ascending = subst Up (sym is.machines) (at_up plan.machines p d up);
      only = λ k h. let P : List ℕ → Type 0 = λ xs. Contains xs k in at_from plan w.priority w.depth k (subst P own h);
      all = λ k h. let P : List ℕ → Type 0 = λ xs. Contains xs k in subst P (sym own) (at_to plan w.priority w.depth k h);
      some = is.some;
    }

same_there : {X : Type 0} (xs : List X) (i : ℕ) (z : X) → i < length xs → get_or xs i (get_or xs i z) ≡ get_or xs i z
same_there xs i z within = get_or_default xs i (get_or xs i z) z within

above_listed : (xs : List ℕ) (k : ℕ) → Contains xs k → k < above xs
above_listed [] k h = absurd (nothing k h)
above_listed (x ∷ xs) k h = elim (Contains-append_cases (x ∷ []) xs k h) [
  | inl e ↦ omega (arith, one_in x k e)
  | inr rest ↦ omega (arith, above_listed xs k rest)
]

pub each_wave : (plan : Plan) → IsOrdered plan → All (IsWave plan) (waves_of plan)
each_wave plan ordered = λ i z within.
    let w = get_or (waves_of plan) i z in
    let here : Contains (waves_of plan) w = (i, within, same_there (waves_of plan) i z within) in
    let m = made plan w here in
    is_wave plan m.0 m.1 w ordered.ascending m.2

wave_there : (p d k : ℕ) (ks : List ℕ) → Contains ks k → Contains (wave_of p d ks) (record { priority = p; depth = d; machines = ks })
wave_there p d k [] h = absurd (nothing k h)
wave_there p d k (x ∷ xs) h = in_one (record { priority = p; depth = d; machines = x ∷ xs })

a_priority : (p : ℕ) → IsPriority p → Contains priorities p
a_priority zero is = absurd (omega (arith, is.least))
a_priority (suc zero) is = (0, omega arith, refl)
a_priority (suc (suc zero)) is = (1, omega arith, refl)
a_priority (suc (suc (suc zero))) is = (2, omega arith, refl)
a_priority (suc (suc (suc (suc zero)))) is = (3, omega arith, refl)
a_priority (suc (suc (suc (suc (suc zero))))) is = (4, omega arith, refl)
a_priority (suc (suc (suc (suc (suc (suc n)))))) is = absurd (omega (arith, is.greatest))

pub each_machine : (plan : Plan) → IsOrdered plan → (m : PlanMachine) → Contains plan.machines m → HasIn (waves_of plan) m.priority m.depth m.machine
each_machine plan ordered m listed =
    let p = m.priority in
    let d = m.depth in
    let ks = machines_at plan.machines p d in
    let has : Contains ks m.machine = at_to plan p d m.machine (record { entry = m; listed = listed; number = refl; same_priority = refl; same_depth = refl }) in
    let deep : d < above (map (λ x. x.depth) plan.machines) = above_listed (map (λ x. x.depth) plan.machines) d (mapped_to (λ (x : PlanMachine). x.depth) plan.machines m listed) in
    let wave : Wave = record { priority = p; depth = d; machines = ks } in
    record {
      wave = wave;
      listed = flat_to (waves_at plan.machines) priorities p wave (a_priority p (All-contains (λ x. IsPriority x.priority) plan.machines m ordered.priorities listed))
          (flat_to (wave_at plan.machines p) (depths_in plan.machines) d wave (in_range (above (map (λ x. x.depth) plan.machines)) d deep) (wave_there p d m.machine ks has));
      same_priority = refl;
      same_depth = refl;
      of_wave = has;
    }

pairs_append : {X : Type 0} (R : X → X → Type 0) (xs ys : List X) → AllPairs R xs → AllPairs R ys → ((x y : X) → Contains xs x → Contains ys y → R x y) → AllPairs R (xs ++ ys)
pairs_append {X} R xs ys front back cross = λ i j z lower within.
    let n = length xs in
    let long : length (xs ++ ys) ≡ n + length ys = length-append xs ys in
    let at = λ (k : ℕ). get_or (xs ++ ys) k z in
    let Left : X → Type 0 = λ v. R v (at j) in
    elim (cases_lt j n) [
      | inl inner ↦
          let first_in : i < n = omega arith in
          let Right : X → Type 0 = λ w. R (get_or xs i z) w in
          subst Left (sym (get_or_append_left xs ys z i first_in)) (subst Right (sym (get_or_append_left xs ys z j inner)) (front i j z lower inner))
      | inr past ↦
          let last_in : j - n < length ys = omega (arith, long, within) in
          let there : at j ≡ get_or ys (j - n) z = get_or-append_right xs ys n j z refl past in
          elim (cases_lt i n) [
            | inl inner ↦
                let Right : X → Type 0 = λ w. R (get_or xs i z) w in
                subst Left (sym (get_or_append_left xs ys z i inner)) (subst Right (sym there) (cross (get_or xs i z) (get_or ys (j - n) z) (Contains-get_or xs i z inner) (Contains-get_or ys (j - n) z last_in)))
            | inr after ↦
                let Right : X → Type 0 = λ w. R (get_or ys (i - n) z) w in
                let order : i - n < j - n = omega arith in
                subst Left (sym (get_or-append_right xs ys n i z refl after)) (subst Right (sym there) (back (i - n) (j - n) z order last_in))
          ]
    ]

flat_pairs : (f : ℕ → List Wave) (xs : List ℕ) → IsStrictlyIncreasing xs → ((x : ℕ) → AllPairs IsEarlierWave (f x)) → ((x x' : ℕ) (v w : Wave) → x < x' → Contains (f x) v → Contains (f x') w → IsEarlierWave v w)
    → AllPairs IsEarlierWave (flat_map f xs)
flat_pairs f [] up each cross = λ i j z lower within. absurd (omega (arith, within))
flat_pairs f (x ∷ xs) up each cross = pairs_append IsEarlierWave (f x) (flat_map f xs) (each x) (flat_pairs f xs (tail_up x xs up) each cross)
    (λ v w has has'. let r = flat_from f xs w has' in cross x r.0 v w (later x xs up r.0 r.1) has r.2)

made_at : (plan : Plan) (p d : ℕ) (w : Wave) → Contains (wave_at plan.machines p d) w → Made plan p d w
made_at plan p d w h = made_of plan p d (machines_at plan.machines p d) w refl h

of_priority : (plan : Plan) (p : ℕ) (w : Wave) → Contains (waves_at plan.machines p) w → w.priority ≡ p
of_priority plan p w h = let r = flat_from (wave_at plan.machines p) (depths_in plan.machines) w h in (made_at plan p r.0 w r.2).priority

one_apart : (xs : List Wave) → length xs ≤ 1 → AllPairs IsEarlierWave xs
one_apart xs few = λ i j z lower within. absurd (omega (arith, few, within, lower))

by_depth : (plan : Plan) (p : ℕ) → AllPairs IsEarlierWave (waves_at plan.machines p)
by_depth plan p = flat_pairs (wave_at plan.machines p) (depths_in plan.machines) (range_up (above (map (λ m. m.depth) plan.machines)))
    (λ d. one_apart (wave_at plan.machines p d) (wave_few p d (machines_at plan.machines p d)))
    (λ d d' v w lower has has'.
    let a = made_at plan p d v has in
    let b = made_at plan p d' w has' in
    inr (a.priority ∙ sym b.priority, (let below : v.depth < w.depth = omega (arith, a.depth, b.depth, lower) in below)))

priorities_up : IsStrictlyIncreasing priorities
priorities_up zero h = omega arith
priorities_up (suc zero) h = omega arith
priorities_up (suc (suc zero)) h = omega arith
priorities_up (suc (suc (suc zero))) h = omega arith
priorities_up (suc (suc (suc (suc k)))) h = absurd (omega (arith, h))

in_order : (plan : Plan) → AllPairs IsEarlierWave (waves_of plan)
in_order plan = flat_pairs (waves_at plan.machines) priorities priorities_up (by_depth plan)
    (λ p p' v w lower has has'. inl (let below : v.priority < w.priority = omega (arith, of_priority plan p v has, of_priority plan p' w has', lower) in below))

-- the waves of an ordered plan
pub are_waves : (plan : Plan) → IsOrdered plan → AreWaves plan (waves_of plan)
are_waves plan ordered = record {
  in_order = λ i j v w lower found found'.
      let Left : Wave → Type 0 = λ x. IsEarlierWave x w in
      let Right : Wave → Type 0 = λ x. IsEarlierWave (get_or (waves_of plan) i v) x in
      subst Left (get_or_from_slice_get (waves_of plan) i v v found)
      (subst Right (get_or_from_slice_get (waves_of plan) j w v found') (in_order plan i j v lower (slice_get_within (waves_of plan) j w found')));
  each = each_wave plan ordered;
  complete = λ m listed. each_machine plan ordered m listed;
}
