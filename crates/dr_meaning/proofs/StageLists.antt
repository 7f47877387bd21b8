-- Lists of stages that grow at their end.
use Rattle.std.proofs.Common.{◌≡◌, ℕ, zero, suc, ◌+◌, ◌-◌, ◌<◌, ◌≤◌, ◌⊎◌, inl, inr, ◌==◌, Bool, true, false, List, [], ◌∷◌, ◌++◌, length, get_or, take, map, refl, sym, ap, ◌∙◌, arith, append_assoc, add-one}
use Rattle.std.specs.List.{flat_map, range_with_len}
use Rattle.std.specs.Prelude.{if◌then◌else◌}
use Rattle.std.proofs.lemmas.Bool.{cases_eq, eq-eqb, ne_eqb}
use Rattle.std.proofs.lemmas.List.Elements.{filter-append}
use Rattle.dr_plan.specs.Waves.{machines_at, wave_of, wave_at, waves_at, waves_of, depths_in, priorities}
use Rattle.dr_meaning.specs.Types.{Step, PlanMachine, Plan, Wave, Stage, StageKind}
use Rattle.dr_meaning.specs.Stages.{step_stage, steps_before, wave_stage, start_priority, start_up}
use Rattle.dr_meaning.specs.Waves.{of_priority}

-- one more step
pub steps_before_more : (priority n : ℕ) (steps : List Step) (i : ℕ) (d : Step) → i < length steps → steps_before priority n (take (suc i) steps) ≡ steps_before priority n (take i steps) ++ (if (get_or steps i d).before == priority then step_stage (n + i) (get_or steps i d) ∷ [] else [])
steps_before_more priority n [] i d l = absurd (omega arith)
steps_before_more priority n (s ∷ steps) zero d l = go (s.before == priority)
  where
    plus_0 : n + 0 ≡ n
    plus_0 = omega arith

    go : (b : Bool) → (if b then step_stage n s ∷ [] else []) ≡ [] ++ (if b then step_stage (n + 0) s ∷ [] else [])
    go true = rw plus_0 refl
    go false = refl
steps_before_more priority n (s ∷ steps) (suc i) d l =
    go (s.before == priority) (rw shifted at (steps_before_more priority (n + 1) steps i d (omega arith)))
  where
    shifted : n + 1 + i ≡ n + suc i
    shifted = omega arith

    more : Stage → List Stage
    more x = if (get_or steps i d).before == priority then x ∷ [] else []

    go : (b : Bool) → steps_before priority (n + 1) (take (suc i) steps) ≡ steps_before priority (n + 1) (take i steps) ++ more (step_stage (n + suc i) (get_or steps i d)) → (if b then step_stage n s ∷ steps_before priority (n + 1) (take (suc i) steps) else steps_before priority (n + 1) (take (suc i) steps)) ≡ (if b then step_stage n s ∷ steps_before priority (n + 1) (take i steps) else steps_before priority (n + 1) (take i steps)) ++ more (step_stage (n + suc i) (get_or steps i d))
    go true e = ap (λ xs. step_stage n s ∷ xs) e
    go false e = e

-- the waves of one priority are of it, and those of another aren't
wave_of_same : (p depth : ℕ) (ms : List ℕ) → of_priority p (wave_of p depth ms) ≡ wave_of p depth ms
wave_of_same p depth [] = refl
wave_of_same p depth (m ∷ ms) = rw (eq-eqb p p refl) refl

wave_of_other : (p q depth : ℕ) (ms : List ℕ) → (q == p) ≡ false → of_priority p (wave_of q depth ms) ≡ []
wave_of_other p q depth [] e = refl
wave_of_other p q depth (m ∷ ms) e = rw e refl

same_over : (ms : List PlanMachine) (p : ℕ) (depths : List ℕ) → of_priority p (flat_map (wave_at ms p) depths) ≡ flat_map (wave_at ms p) depths
same_over ms p [] = refl
same_over ms p (depth ∷ depths) = filter-append (λ w. w.priority == p) (wave_at ms p depth) (flat_map (wave_at ms p) depths) ∙ rw (wave_of_same p depth (machines_at ms p depth), same_over ms p depths) refl

other_over : (ms : List PlanMachine) (p q : ℕ) → (q == p) ≡ false → (depths : List ℕ) → of_priority p (flat_map (wave_at ms q) depths) ≡ []
other_over ms p q e [] = refl
other_over ms p q e (depth ∷ depths) = filter-append (λ w. w.priority == p) (wave_at ms q depth) (flat_map (wave_at ms q) depths) ∙ rw (wave_of_other p q depth (machines_at ms q depth) e, other_over ms p q e depths) refl

-- the waves of p among those of these priorities
abbrev picked : List PlanMachine → ℕ → List ℕ → List Wave
picked ms p [] = []
picked ms p (q ∷ qs) = (if q == p then waves_at ms p else []) ++ picked ms p qs

picked_is : (ms : List PlanMachine) (p : ℕ) (qs : List ℕ) → of_priority p (flat_map (waves_at ms) qs) ≡ picked ms p qs
picked_is ms p [] = refl
picked_is ms p (q ∷ qs) = filter-append (λ w. w.priority == p) (waves_at ms q) (flat_map (waves_at ms) qs) ∙ rw (picked_is ms p qs) (ap (λ ws. ws ++ picked ms p qs) (first (cases_eq q p)))
  where
    first : (q ≡ p) ⊎ (q ≡ p → ⊥) → of_priority p (waves_at ms q) ≡ (if q == p then waves_at ms p else [])
    first (inl e) = rw (e, eq-eqb p p refl) (same_over ms p (depths_in ms))
    first (inr ne) = rw (ne_eqb q p ne) (other_over ms p q (ne_eqb q p ne) (depths_in ms))

append-nil : {X : Type 0} (xs : List X) → xs ++ [] ≡ xs
append-nil [] = refl
append-nil (x ∷ xs) = ap (λ ys. x ∷ ys) (append-nil xs)

-- the waves of a priority, picked from all
pub waves_of_priority : (plan : Plan) (p : ℕ) → 1 ≤ p → p ≤ 5 → of_priority p (waves_of plan) ≡ waves_at plan.machines p
waves_of_priority plan p least greatest = picked_is plan.machines p priorities ∙ by_number p least greatest
  where
    by_number : (p : ℕ) → 1 ≤ p → p ≤ 5 → picked plan.machines p priorities ≡ waves_at plan.machines p
    by_number zero a b = absurd (omega arith)
    by_number (suc zero) a b = append-nil _
    by_number (suc (suc zero)) a b = append-nil _
    by_number (suc (suc (suc zero))) a b = append-nil _
    by_number (suc (suc (suc (suc zero)))) a b = append-nil _
    by_number (suc (suc (suc (suc (suc zero))))) a b = append-nil _
    by_number (suc (suc (suc (suc (suc (suc p)))))) a b = absurd (omega arith)

-- one more priority
pub flat_map_range_more : {X : Type 0} (f : ℕ → List X) (a n : ℕ) → flat_map f (range_with_len a (suc n)) ≡ flat_map f (range_with_len a n) ++ f (a + n)
flat_map_range_more f a zero = let e : a + 0 ≡ a = omega arith in rw e (append-nil (f a))
flat_map_range_more f a (suc n) =
    let e : a + 1 + n ≡ a + suc n = omega arith in
    rw (flat_map_range_more f (a + 1) n, e) (sym (append_assoc (f a) (flat_map f (range_with_len (a + 1) n)) (f (a + suc n))))

-- what a loop over steps adds
pub push_step_adds : (priority i : ℕ) (steps : List Step) (x : Step) (old before after : List Stage) → i < length steps → x ≡ get_or steps i x → before ≡ old ++ steps_before priority 1 (take i steps) → after ≡ before ++ (if x.before == priority then step_stage (i + 1) x ∷ [] else []) → after ≡ old ++ steps_before priority 1 (take (i + 1) steps)
push_step_adds priority i steps x old before after l is e f =
    let number : 1 + i ≡ i + 1 = omega arith in
    let one : i + 1 ≡ suc i = add-one i in
    let more : steps_before priority 1 (take (suc i) steps) ≡ steps_before priority 1 (take i steps) ++ (if (get_or steps i x).before == priority then step_stage (1 + i) (get_or steps i x) ∷ [] else []) = steps_before_more priority 1 steps i x l in
    let same : steps_before priority 1 (take (suc i) steps) ≡ steps_before priority 1 (take i steps) ++ (if x.before == priority then step_stage (i + 1) x ∷ [] else []) = rw (← is, number) at more in
    f ∙ (ap (λ xs. xs ++ (if x.before == priority then step_stage (i + 1) x ∷ [] else [])) e ∙ (append_assoc old _ _ ∙ ap (λ xs. old ++ xs) (sym same ∙ ap (λ k. steps_before priority 1 (take k steps)) (sym one))))

-- what a priority adds
pub push_priority_adds : (plan : Plan) (p : ℕ) (waves : List Wave) (old mid after : List Stage) → 1 ≤ p → p ≤ 5 → waves ≡ waves_of plan → (steps : List Step) → steps ≡ plan.steps → mid ≡ old ++ steps_before p 1 steps → after ≡ mid ++ map (wave_stage StageKind.Start) (of_priority p waves) → after ≡ old ++ start_priority plan p
push_priority_adds plan p waves old mid after least greatest are steps own e f =
    f ∙ (ap (λ xs. xs ++ map (wave_stage StageKind.Start) (of_priority p waves)) (e ∙ ap (λ xs. old ++ steps_before p 1 xs) own) ∙ (append_assoc old _ _ ∙ ap (λ ws. old ++ (steps_before p 1 plan.steps ++ map (wave_stage StageKind.Start) ws)) (ap (of_priority p) are ∙ waves_of_priority plan p least greatest)))

-- what a loop over priorities adds
pub push_priorities_add : (plan : Plan) (p : ℕ) (old mid after : List Stage) → 1 ≤ p → mid ≡ old ++ flat_map (start_priority plan) (range_with_len 1 (p - 1)) → after ≡ mid ++ start_priority plan p → after ≡ old ++ flat_map (start_priority plan) (range_with_len 1 (p + 1 - 1))
push_priorities_add plan p old mid after least e f =
    let one_more : p + 1 - 1 ≡ suc (p - 1) = omega (arith, least) in
    let is : 1 + (p - 1) ≡ p = omega (arith, least) in
    let more : flat_map (start_priority plan) (range_with_len 1 (suc (p - 1))) ≡ flat_map (start_priority plan) (range_with_len 1 (p - 1)) ++ start_priority plan (1 + (p - 1)) = flat_map_range_more (start_priority plan) 1 (p - 1) in
    let moved : flat_map (start_priority plan) (range_with_len 1 (suc (p - 1))) ≡ flat_map (start_priority plan) (range_with_len 1 (p - 1)) ++ start_priority plan p = more ∙ ap (λ k. flat_map (start_priority plan) (range_with_len 1 (p - 1)) ++ start_priority plan k) is in
    f ∙ (ap (λ xs. xs ++ start_priority plan p) e ∙ (append_assoc old _ _ ∙ ap (λ xs. old ++ xs) (sym moved ∙ ap (λ k. flat_map (start_priority plan) (range_with_len 1 k)) (sym one_more))))

-- after the last one
pub start_up_whole : (plan : Plan) (p : ℕ) (old now : List Stage) → 6 ≤ p → p ≤ 6 → now ≡ old ++ flat_map (start_priority plan) (range_with_len 1 (p - 1)) → now ≡ old ++ start_up plan
start_up_whole plan p old now least greatest e =
    let five : p - 1 ≡ 5 = omega (arith, least, greatest) in
    e ∙ ap (λ k. old ++ flat_map (start_priority plan) (range_with_len 1 k)) five
