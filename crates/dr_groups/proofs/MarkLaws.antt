-- Listing what is marked, in ascending order.
use Rattle.std.proofs.Common.{◌≡◌, ◌∙◌, ℕ, ◌+◌, ◌<◌, ◌-◌, Bool, true, false, List, [], ◌∷◌, ◌++◌, length, get_or, inl, inr, refl, sym, ap, subst, arith, length-append}
use Rattle.std.specs.List.{Contains, All}
use Rattle.std.specs.List.Sorted.{IsStrictlyIncreasing}
use Rattle.std.proofs.lemmas.Bool.{cases_lt}
use Rattle.std.proofs.lemmas.List.{get_or_past, get_or_append_left, get_or-append_right}
use Rattle.std.proofs.lemmas.List.Elements.{All-push, All-weaker, All-get_or, All-contains, Contains-append_left, Contains-push}
use Rattle.dr_groups.specs.Marks.{IsMarked, ListsAscending}

pub true_is_not_false : true ≡ false → ⊥
true_is_not_false e = cc

-- the numbers below `i` that have a property, in ascending order
pub record ListsBelow (Has : ℕ → Type 0) (i : ℕ) (numbers : List ℕ) : Type 0 where
  pub ascending : IsStrictlyIncreasing numbers
  pub below : All (λ k. k < i) numbers
  pub have : All Has numbers
  pub all : (k : ℕ) → k < i → Has k → Contains numbers k

increasing-push : (xs : List ℕ) (x : ℕ) → IsStrictlyIncreasing xs → All (λ k. k < x) xs → IsStrictlyIncreasing (xs ++ x ∷ [])
increasing-push xs x up below k h =
    let long : length (xs ++ x ∷ []) ≡ length xs + 1 = length-append xs (x ∷ []) in
    let here : get_or (xs ++ x ∷ []) k 0 ≡ get_or xs k 0 = get_or_append_left xs (x ∷ []) 0 k (omega (arith, long)) in
    elim (cases_lt (k + 1) (length xs)) [
      | inl inner ↦ omega (arith, here, get_or_append_left xs (x ∷ []) 0 (k + 1) inner, up k inner)
      | inr last ↦
          let at_end : k + 1 ≡ length xs = omega (arith, long) in
          let is_x : get_or (xs ++ x ∷ []) (k + 1) 0 ≡ x = ap (λ n. get_or (xs ++ x ∷ []) n 0) at_end ∙ get_or-append_right xs (x ∷ []) (length xs) (length xs) 0 refl (omega arith)
          ∙ ap (λ n. get_or (x ∷ []) n 0) (let none : length xs - length xs ≡ 0 = omega arith in none) in
          omega (arith, here, is_x, All-get_or (λ k. k < x) xs k 0 (omega (arith, long)) below)
    ]

pub lists_below-none : (Has : ℕ → Type 0) (numbers : List ℕ) → numbers ≡ [] → ListsBelow Has 0 numbers
lists_below-none Has numbers none =
    let P : List ℕ → Type 0 = λ ns. ListsBelow Has 0 ns in
    subst P (sym none) (record { ascending = λ k h. absurd (omega arith); below = λ k d h. absurd (omega arith); have = λ k d h. absurd (omega arith); all = λ k h. absurd (omega arith) })

pub lists_below-push : (Has : ℕ → Type 0) (i : ℕ) (before now : List ℕ) → ListsBelow Has i before → now ≡ before ++ i ∷ [] → Has i → ListsBelow Has (i + 1) now
lists_below-push Has i before now so_far pushed has =
    let P : List ℕ → Type 0 = λ ns. ListsBelow Has (i + 1) ns in
    subst P (sym pushed) (record {
      ascending = increasing-push before i so_far.ascending so_far.below;
      below = All-push (λ k. k < i + 1) before i (All-weaker (λ k. k < i) (λ k. k < i + 1) (λ k h. omega arith) before so_far.below) (omega arith);
      have = All-push Has before i so_far.have has;
      all = λ k below has_k. elim (cases_lt k i) [
        | inl lower ↦ Contains-append_left before (i ∷ []) k (so_far.all k lower has_k)
        | inr last ↦ let same : k ≡ i = omega arith in let Q : ℕ → Type 0 = λ n. Contains (before ++ i ∷ []) n in subst Q (sym same) (Contains-push before i)
      ];
    })

pub lists_below-skip : (Has : ℕ → Type 0) (i : ℕ) (before now : List ℕ) → ListsBelow Has i before → now ≡ before → ¬ Has i → ListsBelow Has (i + 1) now
lists_below-skip Has i before now so_far same lacks =
    let P : List ℕ → Type 0 = λ ns. ListsBelow Has (i + 1) ns in
    subst P (sym same) (record {
      ascending = so_far.ascending;
      below = All-weaker (λ k. k < i) (λ k. k < i + 1) (λ k h. omega arith) before so_far.below;
      have = so_far.have;
      all = λ k below has_k. elim (cases_lt k i) [
        | inl lower ↦ so_far.all k lower has_k
        | inr last ↦ let is_i : k ≡ i = omega arith in absurd (lacks (subst Has is_i has_k))
      ];
    })

-- once all numbers that may have it were asked
pub lists_below-all : (Has : ℕ → Type 0) (i : ℕ) (numbers : List ℕ) → ListsBelow Has i numbers → ((k : ℕ) → Has k → k < i) → ListsAscending Has numbers
lists_below-all Has i numbers so_far within = record {
  ascending = so_far.ascending;
  exactly = λ k. (λ listed. All-contains Has numbers k so_far.have listed, λ has. so_far.all k (within k has) has);
}

-- what is marked lies within the list
pub marked_within : (marks : List Bool) (k : ℕ) → IsMarked marks k → k < length marks
marked_within marks k marked = elim (cases_lt k (length marks)) [
  | inl below ↦ below
  | inr past ↦ let none : get_or marks k false ≡ false = get_or_past marks k false past in absurd (true_is_not_false (sym marked ∙ none))
]
