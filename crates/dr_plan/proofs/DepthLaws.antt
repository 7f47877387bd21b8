-- Depths of machines that are passed after all that they depend on.
use Rattle.std.proofs.Common.{slice_index, ◌≡◌, ◌≢◌, ◌∙◌, ℕ, zero, suc, ◌+◌, ◌<◌, ◌≤◌, max, Bool, true, false, cond, List, [], ◌∷◌, length, get_or, set, take, map, replicate, inl, inr, refl, sym, ap, subst, arith, length-set, length-take}
use Rattle.std.specs.List.{Contains, All}
use Rattle.std.proofs.lemmas.Bool.{cases_eq, cases_lt}
use Rattle.std.proofs.lemmas.List.Sums.{sum_by-cons}
use Rattle.std.proofs.lemmas.List.{length-replicate, get_or-set_same, get_or-set_other, get_or-take, get_or_past, take_more, map_push}
use Rattle.std.proofs.lemmas.List.Elements.{All-head, All-tail, All-weaker, All-contains_itself, Contains-get_or}
use Rattle.std.proofs.lemmas.Option.{get_or_from_slice_get, slice_get_within}
use Rattle.dr_groups.specs.Marks.{IsMarked}
use Rattle.dr_groups.proofs.RowLaws.{contained_at}
use Rattle.dr_plan.specs.Cycles.{IsGraph, DependsOn, IsOnCycle}
use Rattle.dr_plan.specs.Walks.{LeadsTo, LeadsOutside, IsFinishOrder, unmarked}
use Rattle.dr_plan.specs.Waves.{above}
use Rattle.dr_plan.specs.Plans.{AreDepths}
use Rattle.dr_plan.specs.Passing.{IsPassing}
use Rattle.dr_plan.proofs.ChainLaws.{leads-self, leads-step, led-within, dependency-within, dependent-within}
use Rattle.dr_plan.proofs.CycleLaws.{cycle-back, cycle-two}
use Rattle.dr_plan.proofs.DependentLaws.{depends-from}
use Rattle.dr_plan.proofs.WalkLaws.{set-kept, set-cases, unmarked-set}
use Rattle.dr_plan.proofs.WaveLaws.{above-push}

front : (order : List ℕ) (n k : ℕ) → k < n → k < length order → Contains (take n order) (get_or order k 0)
front order n k below within =
    let P : ℕ → Type 0 = λ x. Contains (take n order) x in
    subst P (get_or-take n order k 0 below) (Contains-get_or (take n order) k 0 (omega (arith, length-take n order)))

-- what leads out of the machines up to a later one leads out of those up to one later still
next : (g : List (List ℕ)) (order : List ℕ) (i : ℕ) → ((m : ℕ) → ¬ IsOnCycle g m) → IsFinishOrder g order → i < length order
    → (j p : ℕ) → i ≤ j → (out : LeadsOutside g (take (j + 1) order) (get_or order i 0)) → p < length order → get_or order p 0 ≡ out.end → (LeadsOutside g (take (p + 1) order) (get_or order i 0) → ⊥) → ⊥
next g order i none in_order here j p after out place is never_later =
    let m = get_or order i 0 in
    let Led : ℕ → Type 0 = λ x. LeadsTo g m x in
    let Back : ℕ → Type 0 = λ x. LeadsTo g x m in
    let In : ℕ → Type 0 = λ x. Contains (take (j + 1) order) x in
    elim (in_order p place m (subst Led (sym is) out.leads)) [
      | inl back ↦ none m (cycle-two g m out.end (λ same. out.outside (subst In same (front order (j + 1) i (omega arith) here))) out.leads (subst Back is back))
      | inr again ↦ never_later again
    ]

-- in an order of machines none of which is on a cycle, none leads out of the machines up to itself or a later one
never : (g : List (List ℕ)) (order : List ℕ) (i : ℕ) → IsGraph g → ((m : ℕ) → ¬ IsOnCycle g m) → IsFinishOrder g order → ((k : ℕ) → k < length g → Contains order k) → i < length order → get_or order i 0 < length g
    → (fuel j : ℕ) → i ≤ j → length order ≤ j + fuel → LeadsOutside g (take (j + 1) order) (get_or order i 0) → ⊥
never g order i graph none in_order all here within zero j after far out =
    let at = contained_at order out.end (all out.end (led-within g (get_or order i 0) out.end graph out.leads within)) in
    let P : ℕ → Type 0 = λ x. Contains (take (j + 1) order) x in
    let lower : at.0 < length order = at.1 in
    out.outside (subst P at.2 (front order (j + 1) at.0 (omega arith) at.1))
never g order i graph none in_order all here within (suc fuel) j after far out =
    let at = contained_at order out.end (all out.end (led-within g (get_or order i 0) out.end graph out.leads within)) in
    let P : ℕ → Type 0 = λ x. Contains (take (j + 1) order) x in
    elim (cases_lt at.0 (j + 1)) [
      | inl front_one ↦ out.outside (subst P at.2 (front order (j + 1) at.0 front_one at.1))
      | inr past ↦ next g order i none in_order here j at.0 after out at.1 at.2 (never g order i graph none in_order all here within fuel at.0 (omega arith) (omega arith))
    ]

-- each machine comes after all that it depends on
pub comes_after : (g : List (List ℕ)) (order : List ℕ) (i d : ℕ) → IsGraph g → ((m : ℕ) → ¬ IsOnCycle g m) → IsFinishOrder g order → ((k : ℕ) → k < length g → Contains order k) → i < length order
    → DependsOn g (get_or order i 0) d → (k : ℕ) × (k < i) × (get_or order k 0 ≡ d)
comes_after g order i d graph none in_order all here depends =
    let m = get_or order i 0 in
    let at = contained_at order d (all d (dependency-within g m d graph depends)) in
    let Led : ℕ → Type 0 = λ x. LeadsTo g m x in
    let Back : ℕ → Type 0 = λ x. LeadsTo g x m in
    elim (cases_lt at.0 i) [
      | inl earlier ↦ (at.0, earlier, at.2)
      | inr later ↦ absurd (elim (in_order at.0 at.1 m (subst Led (sym at.2) (leads-step g m d d depends (leads-self g d)))) [
        | inl back ↦ none m (cycle-back g m d depends (subst Back at.2 back))
        | inr out ↦ never g order i graph none in_order all here (dependent-within g m d depends) (length order) at.0 later (omega arith) out
      ])
    ]

-- lists on which two functions agree
pub map_agree : (f h : ℕ → ℕ) (xs : List ℕ) → All (λ x. f x ≡ h x) xs → map f xs ≡ map h xs
map_agree f h [] each = refl
map_agree f h (x ∷ xs) each =
    let head : f x ≡ h x = All-head (λ x. f x ≡ h x) x xs each in
    let rest : map f xs ≡ map h xs = map_agree f h xs (All-tail (λ x. f x ≡ h x) x xs each) in
    rw (head, rest) refl

above_small : (f : ℕ → ℕ) (xs : List ℕ) (u n : ℕ) → ((x : ℕ) → f x + u ≤ n) → u ≤ n → above (map f xs) + u ≤ n + 1
above_small f [] u n each few = omega arith
above_small f (x ∷ xs) u n each few = let rest : above (map f xs) + u ≤ n + 1 = above_small f xs u n each few in omega (arith, each x)

unmarked_few : (marks : List Bool) → unmarked marks ≤ length marks
unmarked_few [] = omega arith
unmarked_few (true ∷ marks) = let rest : unmarked marks ≤ length marks = unmarked_few marks in let one : unmarked (true ∷ marks) ≡ 0 + unmarked marks = sum_by-cons (λ (mark : Bool). cond mark 0 1) true marks in omega (arith, one)
unmarked_few (false ∷ marks) = let rest : unmarked marks ≤ length marks = unmarked_few marks in let one : unmarked (false ∷ marks) ≡ 1 + unmarked marks = sum_by-cons (λ (mark : Bool). cond mark 0 1) false marks in omega (arith, one)

zeros : (n m z : ℕ) → get_or (replicate n z) m z ≡ z
zeros zero m z = refl
zeros (suc n) zero z = refl
zeros (suc n) (suc m) z = zeros n m z

-- none is passed yet
pub passing-none : (g : List (List ℕ)) (depths : List ℕ) (passed : List Bool) → depths ≡ replicate (length g) 0 → length passed ≡ length g → ((k : ℕ) → ¬ IsMarked passed k) → IsPassing g depths passed
passing-none g depths passed all_zero marks_long none = record {
  one_each = ap length all_zero ∙ length-replicate (length g) 0;
  one_mark_each = marks_long;
  right = λ m marked. absurd (none m marked);
  closed = λ m d marked depends. absurd (none m marked);
  small = λ m. let zero_here : get_or depths m 0 ≡ 0 = ap (λ ds. get_or ds m 0) all_zero ∙ zeros (length g) m 0 in omega (arith, zero_here, unmarked_few passed);
}

-- depths of other machines than this one
kept_depths : (g : List (List ℕ)) (depths : List ℕ) (m v k : ℕ) → ((d : ℕ) → DependsOn g k d → d ≢ m) → k < length g
    → map (slice_index (set depths m v)) (get_or g k []) ≡ map (slice_index depths) (get_or g k [])
kept_depths g depths m v k apart within =
    let row = get_or g k [] in
    map_agree (slice_index (set depths m v)) (slice_index depths) row
    (All-weaker (Contains row) (λ d. slice_index (set depths m v) d ≡ slice_index depths d) (λ d listed. get_or-set_other depths m d v 0 (apart d (depends-from g k d within listed))) row (All-contains_itself row))

marks_within : (marks : List Bool) (k : ℕ) → IsMarked marks k → k < length marks
marks_within marks k marked = elim (cases_lt k (length marks)) [
  | inl below ↦ below
  | inr past ↦ let none : get_or marks k false ≡ false = get_or_past marks k false past in absurd (let e : true ≡ false = sym marked ∙ none in cc)
]

-- one machine more
pub passing-more : (g : List (List ℕ)) (depths : List ℕ) (passed : List Bool) (m v : ℕ) → IsPassing g depths passed → m < length g → get_or passed m false ≡ false → ((d : ℕ) → DependsOn g m d → IsMarked passed d)
    → v ≡ above (map (slice_index depths) (get_or g m [])) → IsPassing g (set depths m v) (set passed m true)
passing-more g depths passed m v so_far within unmarked_here followed is =
    let long : length depths ≡ length g = so_far.one_each in
    let marks_long : length passed ≡ length g = so_far.one_mark_each in
    let inside : m < length passed = omega arith in
    let place : m < length depths = omega arith in
    let apart : (d : ℕ) → IsMarked passed d → d ≢ m = λ d marked same. let P : ℕ → Type 0 = λ n. IsMarked passed n in let e : true ≡ false = sym (subst P same marked) ∙ unmarked_here in cc in
    let one_less : unmarked (set passed m true) + 1 ≡ unmarked passed = unmarked-set passed m inside unmarked_here in
    let few : unmarked passed ≤ length g = omega (arith, so_far.small m) in
    let v_small : v + unmarked passed ≤ length g + 1 = rw is (above_small (slice_index depths) (get_or g m []) (unmarked passed) (length g) so_far.small few) in
    record {
      one_each = length-set depths m v ∙ long;
      one_mark_each = length-set passed m true ∙ marks_long;
      right = λ k marked. elim (cases_eq k m) [
        | inl same ↦
            let Q : ℕ → Type 0 = λ n. get_or (set depths m v) n 0 ≡ above (map (slice_index (set depths m v)) (get_or g n [])) in
            subst Q (sym same) (get_or-set_same depths m v 0 place ∙ is ∙ sym (ap above (kept_depths g depths m v m (λ d depends. apart d (followed d depends)) within)))
        | inr other ↦ elim (set-cases passed m k marked) [
          | inl same ↦ absurd (other (sym same))
          | inr before ↦
              get_or-set_other depths m k v 0 other ∙ so_far.right k before
              ∙ sym (ap above (kept_depths g depths m v k (λ d depends. apart d (so_far.closed k d before depends)) (omega (arith, marks_within passed k before))))
        ]
      ];
      closed = λ k d marked depends. elim (set-cases passed m k marked) [
        | inl same ↦ let P : ℕ → Type 0 = λ n. DependsOn g n d in set-kept passed m d inside (followed d (subst P (sym same) depends))
        | inr before ↦ set-kept passed m d inside (so_far.closed k d before depends)
      ];
      small = λ k. elim (cases_eq k m) [
        | inl same ↦ let here : get_or (set depths m v) k 0 ≡ v = ap (λ n. get_or (set depths m v) n 0) same ∙ get_or-set_same depths m v 0 place in omega (arith, here, one_less, v_small)
        | inr other ↦ let there : get_or (set depths m v) k 0 ≡ get_or depths k 0 = get_or-set_other depths m k v 0 other in omega (arith, there, one_less, so_far.small k)
      ];
    }

-- once all are passed, all have their depths
pub passing-all : (g : List (List ℕ)) (depths : List ℕ) (passed : List Bool) → IsPassing g depths passed → ((k : ℕ) → k < length g → IsMarked passed k) → AreDepths g depths
passing-all g depths passed so_far all = record {
  one_each = so_far.one_each;
  each = λ m after found. so_far.right m (all m (slice_get_within g m after found)) ∙ ap (λ row. above (map (slice_index depths) row)) (get_or_from_slice_get g m after [] found);
}

-- one dependency more
pub above_more : (depths machines : List ℕ) (i : ℕ) → i < length machines → above (map (slice_index depths) (take (i + 1) machines)) ≡ max (above (map (slice_index depths) (take i machines))) (get_or depths (get_or machines i 0) 0 + 1)
above_more depths machines i within =
    ap (λ xs. above (map (slice_index depths) xs)) (take_more machines i 0 within)
    ∙ ap above (map_push (slice_index depths) (take i machines) (get_or machines i 0)) ∙ above-push (map (slice_index depths) (take i machines)) (get_or depths (get_or machines i 0) 0)
