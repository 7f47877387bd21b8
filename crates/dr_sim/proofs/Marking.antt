-- Marking the first consistency groups of a list, and making their pairs.
use Rattle.std.proofs.Common.{drop, ◌≡◌, ℕ, ◌+◌, ◌-◌, ◌<◌, ◌≤◌, inl, inr, Bool, true, false, not, ◌&&◌, ◌||◌, ◌==◌, if◌then◌else◌, List, [], ◌∷◌, ◌++◌, length, get_or, set, take, refl, sym, ◌∙◌, ap, arith, ltb, length-append, get_or-set_same, get_or-set_other}
use Rattle.std.specs.List.{filter}
use Rattle.std.proofs.lemmas.Bool.{cases_Bool, cases_eq, eq-eqb, ne_eqb, true≢false}
use Rattle.std.proofs.lemmas.List.{take_more, take_all, take-append-le, take-append-drop, append-nil}
use Rattle.std.proofs.lemmas.List.Elements.{filter-append}
use Rattle.std.proofs.lemmas.List.Folds.{list_any-append}
use Rattle.dr_outside.specs.declared.pair.Pair.{Pair}
use Rattle.dr_outside.specs.declared.array.ArrayCall.{ArrayCall}
use Rattle.dr_base.specs.Lists.{has}
use Rattle.dr_outside.specs.Pairs.{made}
use Rattle.dr_outside.specs.PairLists.{pair_at}
use Rattle.dr_outside.proofs.Listed.{has_more, has_at}
use Rattle.dr_sim.specs.Groups.{groups_of}

-- a group joins those that were met, if it is a new one
abbrev pub met : List ℕ → ℕ → List ℕ
met groups g = if has groups g then groups else groups ++ g ∷ []

or_false : (b : Bool) → (b || false) ≡ b
or_false true = refl
or_false false = refl

unmarked_by : (a b : Bool) → (a && not b) ≡ true → b ≡ false
unmarked_by true true test = sym test
unmarked_by true false test = refl
unmarked_by false b test = absurd (true≢false (sym test))

-- what passes a filter is listed as before
listed_filter : (p : ℕ → Bool) (groups : List ℕ) (g : ℕ) → p g ≡ true → has (filter p groups) g ≡ has groups g
listed_filter p [] g h = refl
listed_filter p (x ∷ rest) g h =
    elim (cases_Bool (p x)) [
      | inl is ↦ rw is (ap (λ b. (x == g) || b) (listed_filter p rest g h))
      | inr isnt ↦ rw isnt (listed_filter p rest g h ∙ sym (ap (λ b. b || has rest g) (ne_eqb x g (λ e. true≢false (sym h ∙ ap p (sym e) ∙ isnt)))))
    ]

-- what isn't listed isn't in the front of the list
front_unlisted : (groups : List ℕ) (n g : ℕ) → has groups g ≡ false → has (take n groups) g ≡ false
front_unlisted groups n g h =
    let front : Bool = has (take n groups) g in
    let rest : Bool = has (drop n groups) g in
    let whole : (front || rest) ≡ false = sym (list_any-append (λ k. k == g) (take n groups) (drop n groups)) ∙ ap (λ gs. has gs g) (take-append-drop n groups) ∙ h in
    elim (cases_Bool front) [
      | inl is ↦ absurd (true≢false (sym (ap (λ b. b || rest) is) ∙ whole))
      | inr isnt ↦ isnt
    ]

-- a group is met after another one and those without it
met_after : (x : ℕ) (groups : List ℕ) (g : ℕ) → (x ∷ filter (λ h. not (h == x)) (met groups g)) ≡ met (x ∷ filter (λ h. not (h == x)) groups) g
met_after x groups g =
    let p : ℕ → Bool = λ h. not (h == x) in
    elim (cases_eq g x) [
      | inl e ↦
          let same : (x == g) ≡ true = eq-eqb x g (sym e) in
          let stays_out : p g ≡ false = ap not (eq-eqb g x e) in
          elim (cases_Bool (has groups g)) [
            | inl is ↦ rw (is, same) refl
            | inr new ↦ rw (new, same) (ap (λ gs. x ∷ gs) (filter-append p groups (g ∷ []) ∙ rw stays_out (append-nil (filter p groups))))
          ]
      | inr other ↦
          let apart : (x == g) ≡ false = ne_eqb x g (λ e. other (sym e)) in
          let passes : p g ≡ true = ap not (ne_eqb g x other) in
          let listed : has (filter p groups) g ≡ has groups g = listed_filter p groups g passes in
          elim (cases_Bool (has groups g)) [
            | inl is ↦ rw (is, apart, listed, is) refl
            | inr new ↦ rw (new, apart, listed, new) (ap (λ gs. x ∷ gs) (filter-append p groups (g ∷ []) ∙ rw passes refl))
          ]
    ]

-- one more pair of a list
groups_of_push : (f : ℕ → ℕ) (xs : List ℕ) (v : ℕ) → groups_of f (xs ++ v ∷ []) ≡ met (groups_of f xs) (f v)
groups_of_push f [] v = refl
groups_of_push f (x ∷ rest) v =
    let p : ℕ → Bool = λ g. not (g == f x) in
    ap (λ gs. f x ∷ filter p gs) (groups_of_push f rest v) ∙ met_after (f x) (groups_of f rest) (f v)

-- the first so many of these groups are marked, and as many are left as there are fewer
pub record MarkedOf (f : ℕ → ℕ) (list : List ℕ) (groups : ℕ) (seen : List ℕ) (left : ℕ) (marks : List Bool) : Type 0 where
  pub marks_are : (k : ℕ) → has list k ≡ true → get_or marks (f k) false ≡ has (take groups seen) (f k)
  pub left_is : left ≡ groups - length seen

-- a group that is listed last is listed
last_listed : (seen : List ℕ) (g h : ℕ) → has (seen ++ g ∷ []) h ≡ (has seen h || ((g == h) || false))
last_listed seen g h = list_any-append (λ k. k == h) seen (g ∷ [])

-- one more is marked: it is a new one, and some were left
marks_one : (f : ℕ → ℕ) (list : List ℕ) (groups : ℕ) (seen : List ℕ) (left : ℕ) (marks : List Bool) (g : ℕ) → g < length marks → length seen < groups → has seen g ≡ false → MarkedOf f list groups seen left marks → MarkedOf f list groups (seen ++ g ∷ []) (left - 1) (set marks g true)
marks_one f list groups seen left marks g fits some_left new so_far =
    let longer : length (seen ++ g ∷ []) ≡ length seen + 1 = length-append seen (g ∷ []) in
    let whole : take groups seen ≡ seen = take_all groups seen (omega arith) in
    let whole_now : take groups (seen ++ g ∷ []) ≡ seen ++ g ∷ [] = take_all groups (seen ++ g ∷ []) (omega (arith, longer)) in
    record {
      marks_are = λ k h. elim (cases_eq (f k) g) [
        | inl e ↦ rw (e, whole_now, last_listed seen g g, new, eq-eqb g g refl) (get_or-set_same marks g true false fits)
        | inr other ↦ get_or-set_other marks g (f k) true false other ∙ so_far.marks_are k h ∙ rw (whole, whole_now, last_listed seen g (f k), ne_eqb g (f k) (λ e. other (sym e))) (sym (or_false _))
      ];
      left_is = omega (arith, longer, so_far.left_is);
    }

-- none more is marked: it isn't new, or none was left
marks_none : (f : ℕ → ℕ) (list : List ℕ) (groups : ℕ) (seen : List ℕ) (left : ℕ) (marks : List Bool) (g : ℕ) → groups ≤ length seen → MarkedOf f list groups seen left marks → MarkedOf f list groups (seen ++ g ∷ []) left marks
marks_none f list groups seen left marks g none_left so_far = record {
  marks_are = λ k h. rw (take-append-le groups seen (g ∷ []) none_left) (so_far.marks_are k h);
  left_is = omega (arith, length-append seen (g ∷ []), so_far.left_is);
}

none_left : (left : ℕ) (b : Bool) → (ltb 0 left && not b) ≡ false → b ≡ false → left ≡ 0
none_left left true test h = absurd (true≢false h)
none_left left false test h = grind (arith, test)

-- a group is met, and marked where it is a new one and some were left
marked_met : (f : ℕ → ℕ) (list : List ℕ) (groups : ℕ) (seen : List ℕ) (left : ℕ) (marks : List Bool) (v : ℕ) → has list v ≡ true → f v < length marks → MarkedOf f list groups seen left marks →
    MarkedOf f list groups (met seen (f v)) (if ltb 0 left && not (get_or marks (f v) false) then left - 1 else left) (if ltb 0 left && not (get_or marks (f v) false) then set marks (f v) true else marks)
marked_met f list groups seen left marks v listed fits so_far =
    let g : ℕ = f v in
    elim (cases_Bool (ltb 0 left && not (get_or marks g false))) [
      | inl test ↦
          let some_left : length seen < groups = grind (arith, test, so_far.left_is) in
          let unmarked : get_or marks g false ≡ false = unmarked_by _ _ test in
          let new : has seen g ≡ false = ap (λ gs. has gs g) (sym (take_all groups seen (omega arith))) ∙ sym (so_far.marks_are v listed) ∙ unmarked in
          rw (test, new) (marks_one f list groups seen left marks g fits some_left new so_far)
      | inr test ↦ elim (cases_Bool (has seen g)) [
        | inl met_before ↦ rw (test, met_before) so_far
        | inr new ↦
            let unmarked : get_or marks g false ≡ false = so_far.marks_are v listed ∙ front_unlisted seen groups g new in
            let zero_left : left ≡ 0 = none_left left (get_or marks g false) test unmarked in
            rw (test, new) (marks_none f list groups seen left marks g (omega (arith, zero_left, so_far.left_is)) so_far)
      ]
    ]

-- the first so many groups are marked of those that the first n pairs of the list are in
abbrev pub Marked : (ℕ → ℕ) → List ℕ → ℕ → ℕ → ℕ → List Bool → Type 0
Marked f list n groups left marks = MarkedOf f list groups (groups_of f (take n list)) left marks

-- one more pair of the list
pub marked_more : (f : ℕ → ℕ) (list : List ℕ) (n groups left : ℕ) (marks : List Bool) → n < length list → f (get_or list n 0) < length marks → MarkedOf f list groups (groups_of f (take n list)) left marks →
    MarkedOf f list groups (groups_of f (take (n + 1) list)) (if ltb 0 left && not (get_or marks (f (get_or list n 0)) false) then left - 1 else left) (if ltb 0 left && not (get_or marks (f (get_or list n 0)) false) then set marks (f (get_or list n 0)) true else marks)
marked_more f list n groups left marks l fits so_far =
    let v : ℕ = get_or list n 0 in
    let more : groups_of f (take (n + 1) list) ≡ met (groups_of f (take n list)) (f v) = ap (groups_of f) (take_more list n 0 l) ∙ groups_of_push f (take n list) v in
    rw more (marked_met f list groups (groups_of f (take n list)) left marks v (has_at list n l) fits so_far)

-- the pairs of these whose group passes a test are made
abbrev pub made_where : ArrayCall → List ℕ → (ℕ → Bool) → List Pair → ℕ → Pair
made_where call list test was i = if has list i && test i then made call (pair_at was i) else pair_at was i

or_true : (b : Bool) → (b || true) ≡ true
or_true true = refl
or_true false = refl

-- the last pair, which wasn't listed before, is made where its group passes the test
made_last : (call : ArrayCall) (was : List Pair) (test : ℕ → Bool) (v : ℕ) (before : List ℕ) (now : List Pair) → pair_at now v ≡ made_where call before test was v → has before v ≡ false → (if (v == v) && test v then made call (pair_at now v) else pair_at now v) ≡ (if true && test v then made call (pair_at was v) else pair_at was v)
made_last call was test v before now so_far new =
    let same = so_far ∙ ap (λ b. if b && test v then made call (pair_at was v) else pair_at was v) new in
    rw (eq-eqb v v refl, same) refl

-- one more pair
pub made_where_more : (call : ArrayCall) (list : List ℕ) (test : ℕ → Bool) (was now next : List Pair) (n : ℕ) → n < length list → has (take n list) (get_or list n 0) ≡ false → ((i : ℕ) → pair_at now i ≡ made_where call (take n list) test was i) → ((i : ℕ) → pair_at next i ≡ (if (i == get_or list n 0) && test (get_or list n 0) then made call (pair_at now i) else pair_at now i)) → (i : ℕ) → pair_at next i ≡ made_where call (take (n + 1) list) test was i
made_where_more call list test was now next n l new so_far is i =
    let v : ℕ = get_or list n 0 in
    let listed : has (take (n + 1) list) v ≡ true = has_more list n v l ∙ ap (λ b. has (take n list) v || b) (eq-eqb v v refl) ∙ or_true _ in
    elim (cases_eq i v) [
      | inl e ↦ rw e (is v ∙ made_last call was test v (take n list) now (so_far v) new ∙ ap (λ b. if b && test v then made call (pair_at was v) else pair_at was v) (sym listed))
      | inr other ↦
          let same : has (take (n + 1) list) i ≡ has (take n list) i = has_more list n i l ∙ ap (λ b. has (take n list) i || b) (ne_eqb v i (λ e. other (sym e))) ∙ or_false _ in
          is i ∙ ap (λ b. if b && test v then made call (pair_at now i) else pair_at now i) (ne_eqb i v other) ∙ so_far i ∙ ap (λ b. if b && test i then made call (pair_at was i) else pair_at was i) (sym same)
    ]

-- one more consistency group is unmarked
pub unmarked_more : (f : ℕ → ℕ) (list : List ℕ) (marks : List Bool) (n : ℕ) → n < length list → f (get_or list n 0) < length marks → ((k : ℕ) → has (take n list) k ≡ true → get_or marks (f k) false ≡ false) → (k : ℕ) → has (take (n + 1) list) k ≡ true → get_or (set marks (f (get_or list n 0)) false) (f k) false ≡ false
unmarked_more f list marks n l fits so_far k h =
    let v : ℕ = get_or list n 0 in
    elim (cases_eq (f k) (f v)) [
      | inl e ↦ rw e (get_or-set_same marks (f v) false false fits)
      | inr other ↦
          let apart : (v == k) ≡ false = ne_eqb v k (λ e. other (ap f (sym e))) in
          get_or-set_other marks (f v) (f k) false false other ∙ so_far k (sym (has_more list n k l ∙ ap (λ b. has (take n list) k || b) apart ∙ or_false _) ∙ h)
    ]
