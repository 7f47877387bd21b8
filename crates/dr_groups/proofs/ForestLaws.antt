-- What joining, halving and flattening do to the roots of a forest.
use Rattle.std.proofs.Common.{◌≡◌, ◌≢◌, ◌∙◌, ◌⊎◌, ℕ, zero, suc, ◌+◌, ◌<◌, ◌≤◌, List, length, get_or, set, max, min, inl, inr, refl, sym, ap, arith, get_or-set_other}
use Rattle.std.proofs.lemmas.Bool.{cases_lt, cases_eq}
use Rattle.std.proofs.lemmas.Bool.Decides.{nat_tests}
use Rattle.std.proofs.lemmas.Grind.{get_or-set_at}
use Rattle.dr_groups.specs.Forests.{IsForest, ancestor, root, joined_root}

-- one more step from an ancestor
ancestor-parent : (ps : List ℕ) (n k : ℕ) → ancestor ps n (get_or ps k 0) ≡ get_or ps (ancestor ps n k) 0
unfolding ancestor
ancestor-parent ps zero k = refl
ancestor-parent ps (suc n) k = ancestor-parent ps n (get_or ps k 0)

-- a root is its own ancestor
ancestor-root : (ps : List ℕ) (n k : ℕ) → get_or ps k 0 ≡ k → ancestor ps n k ≡ k
unfolding ancestor
ancestor-root ps zero k e = refl
ancestor-root ps (suc n) k e = ap (ancestor ps n) e ∙ ancestor-root ps n k e

ancestor-below : (ps : List ℕ) (n k : ℕ) → IsForest ps → ancestor ps n k ≤ k
unfolding ancestor
ancestor-below ps zero k f = omega arith
ancestor-below ps (suc n) k f = omega (arith, ancestor-below ps n (get_or ps k 0) f, f k)

-- as many steps as the number itself lead to a root
ancestor-is_root : (ps : List ℕ) (n k : ℕ) → IsForest ps → k ≤ n → get_or ps (ancestor ps n k) 0 ≡ ancestor ps n k
unfolding ancestor
ancestor-is_root ps zero k f h = omega (arith, f k)
ancestor-is_root ps (suc n) k f h =
    elim (cases_lt n (get_or ps k 0)) [
      | inl above ↦
          let own : get_or ps k 0 ≡ k = omega (arith, f k) in
          let here : ancestor ps n (get_or ps k 0) ≡ k = ap (ancestor ps n) own ∙ ancestor-root ps n k own in
          ap (λ x. get_or ps x 0) here ∙ own ∙ sym here
      | inr within ↦ ancestor-is_root ps n (get_or ps k 0) f within
    ]

-- more steps change nothing
ancestor-enough : (ps : List ℕ) (n k : ℕ) → IsForest ps → k ≤ n → ancestor ps n k ≡ root ps k
unfolding ancestor root
ancestor-enough ps zero k f h = let none : k ≡ 0 = omega arith in ap (λ n. ancestor ps n k) (sym none)
ancestor-enough ps (suc n) k f h =
    elim (cases_lt n k) [
      | inl above ↦ let all : suc n ≡ k = omega arith in ap (λ m. ancestor ps m k) all
      | inr within ↦ ancestor-parent ps n k ∙ ancestor-is_root ps n k f within ∙ ancestor-enough ps n k f within
    ]

pub root-is_root : (ps : List ℕ) (k : ℕ) → IsForest ps → get_or ps (root ps k) 0 ≡ root ps k
unfolding root
root-is_root ps k f = ancestor-is_root ps k k f (omega arith)

pub root-root : (ps : List ℕ) (k : ℕ) → get_or ps k 0 ≡ k → root ps k ≡ k
unfolding root
root-root ps k e = ancestor-root ps k k e

pub root-below : (ps : List ℕ) (k : ℕ) → IsForest ps → root ps k ≤ k
unfolding root
root-below ps k f = ancestor-below ps k k f

-- a number has its parent's root
pub root-parent : (ps : List ℕ) (k : ℕ) → IsForest ps → root ps (get_or ps k 0) ≡ root ps k
unfolding root
root-parent ps k f = sym (ancestor-enough ps k (get_or ps k 0) f (f k)) ∙ ancestor-parent ps k k ∙ ancestor-is_root ps k k f (omega arith)

ancestor-same : (ps : List ℕ) (r : ℕ → ℕ) → ((k : ℕ) → r (get_or ps k 0) ≡ r k) → (n k : ℕ) → r (ancestor ps n k) ≡ r k
unfolding ancestor
ancestor-same ps r same zero k = refl
ancestor-same ps r same (suc n) k = ancestor-same ps r same n (get_or ps k 0) ∙ same k

-- what is the same for a number and its parent, and is a root where that is one, is the root
pub root-unique : (ps : List ℕ) (r : ℕ → ℕ) → IsForest ps → ((k : ℕ) → r (get_or ps k 0) ≡ r k) → ((k : ℕ) → get_or ps k 0 ≡ k → r k ≡ k) → (k : ℕ) → root ps k ≡ r k
unfolding root
root-unique ps r f same roots k = sym (roots (root ps k) (root-is_root ps k f)) ∙ ancestor-same ps r same k k

-- a parent that is changed within a number's own tree, to one that isn't above it, leaves all roots as they were
set-forest : (ps : List ℕ) (at parent : ℕ) → IsForest ps → at < length ps → parent ≤ at → IsForest (set ps at parent)
set-forest ps at parent f within below = λ k.
    elim (cases_eq k at) [
      | inl here ↦ omega (arith, get_or-set_at ps at k parent 0 here within)
      | inr other ↦ omega (arith, get_or-set_other ps at k parent 0 other, f k)
    ]

set-root : (ps : List ℕ) (at parent : ℕ) → IsForest ps → at < length ps → parent ≤ at → root ps parent ≡ root ps at → (parent ≡ at → get_or ps at 0 ≡ at)
    → (k : ℕ) → root (set ps at parent) k ≡ root ps k
set-root ps at parent f within below tree only = root-unique (set ps at parent) (root ps) (set-forest ps at parent f within below)
    (λ k. elim (cases_eq k at) [
      | inl here ↦ ap (root ps) (get_or-set_at ps at k parent 0 here within) ∙ tree ∙ ap (root ps) (sym here)
      | inr other ↦ ap (root ps) (get_or-set_other ps at k parent 0 other) ∙ root-parent ps k f
    ])
    (λ k own. elim (cases_eq k at) [
      | inl here ↦ root-root ps k (ap (λ x. get_or ps x 0) here ∙ only (sym (get_or-set_at ps at k parent 0 here within) ∙ own ∙ here) ∙ sym here)
      | inr other ↦ root-root ps k (sym (get_or-set_other ps at k parent 0 other) ∙ own)
    ])

grandparent-below : (ps : List ℕ) (at : ℕ) → IsForest ps → get_or ps (get_or ps at 0) 0 ≤ at
grandparent-below ps at f = omega (arith, f at, f (get_or ps at 0))

pub halved-forest : (ps : List ℕ) (at : ℕ) → IsForest ps → at < length ps → IsForest (set ps at (get_or ps (get_or ps at 0) 0))
halved-forest ps at f within = set-forest ps at (get_or ps (get_or ps at 0) 0) f within (grandparent-below ps at f)

pub halved-root : (ps : List ℕ) (at : ℕ) → IsForest ps → at < length ps → (k : ℕ) → root (set ps at (get_or ps (get_or ps at 0) 0)) k ≡ root ps k
halved-root ps at f within = set-root ps at (get_or ps (get_or ps at 0) 0) f within (grandparent-below ps at f)
    (root-parent ps (get_or ps at 0) f ∙ root-parent ps at f)
    (λ e. omega (arith, f at, f (get_or ps at 0)))

pub joined_root-greater : (x y k : ℕ) → k ≡ max x y → joined_root x y k ≡ min x y
unfolding joined_root
joined_root-greater x y k e = grind (arith, nat_tests)

pub joined_root-other : (x y k : ℕ) → k ≢ max x y → joined_root x y k ≡ k
unfolding joined_root
joined_root-other x y k e = grind (arith, nat_tests)

pub joined_root-lesser : (x y : ℕ) → joined_root x y (min x y) ≡ min x y
joined_root-lesser x y =
    elim (cases_eq (min x y) (max x y)) [
      | inl same ↦ joined_root-greater x y (min x y) same
      | inr other ↦ joined_root-other x y (min x y) other
    ]

-- the greater and the lesser of two roots are roots
picked-root : (ps : List ℕ) (x y k : ℕ) → get_or ps x 0 ≡ x → get_or ps y 0 ≡ y → (k ≡ x) ⊎ (k ≡ y) → get_or ps k 0 ≡ k
picked-root ps x y k a b (inl e) = ap (λ n. get_or ps n 0) e ∙ a ∙ sym e
picked-root ps x y k a b (inr e) = ap (λ n. get_or ps n 0) e ∙ b ∙ sym e

lesser_picked : (x y : ℕ) → (min x y ≡ x) ⊎ (min x y ≡ y)
lesser_picked x y = elim (cases_lt x y) [ inl below ↦ inl (omega arith) | inr above ↦ inr (omega arith) ]

greater_picked : (x y : ℕ) → (max x y ≡ x) ⊎ (max x y ≡ y)
greater_picked x y = elim (cases_lt x y) [ inl below ↦ inr (omega arith) | inr above ↦ inl (omega arith) ]

pub joined-forest : (ps : List ℕ) (x y : ℕ) → IsForest ps → x < length ps → y < length ps → IsForest (set ps (max x y) (min x y))
joined-forest ps x y f a b = set-forest ps (max x y) (min x y) f (omega arith) (omega arith)

pub joined-root : (ps : List ℕ) (x y : ℕ) → IsForest ps → x < length ps → y < length ps → get_or ps x 0 ≡ x → get_or ps y 0 ≡ y
    → (k : ℕ) → root (set ps (max x y) (min x y)) k ≡ joined_root x y (root ps k)
joined-root ps x y f a b own_x own_y =
    let within : max x y < length ps = omega arith in
    let greater = root-root ps (max x y) (picked-root ps x y (max x y) own_x own_y (greater_picked x y)) in
    let lesser = root-root ps (min x y) (picked-root ps x y (min x y) own_x own_y (lesser_picked x y)) in
    root-unique (set ps (max x y) (min x y)) (λ k. joined_root x y (root ps k)) (joined-forest ps x y f a b)
    (λ k. elim (cases_eq k (max x y)) [
      | inl here ↦
          ap (λ n. joined_root x y (root ps n)) (get_or-set_at ps (max x y) k (min x y) 0 here within)
          ∙ ap (joined_root x y) lesser ∙ joined_root-lesser x y
          ∙ sym (joined_root-greater x y (root ps k) (ap (root ps) here ∙ greater))
      | inr other ↦ ap (λ n. joined_root x y (root ps n)) (get_or-set_other ps (max x y) k (min x y) 0 other) ∙ ap (joined_root x y) (root-parent ps k f)
    ])
    (λ k own. elim (cases_eq k (max x y)) [
      | inl here ↦
          joined_root-greater x y (root ps k) (ap (root ps) here ∙ greater)
          ∙ sym (get_or-set_at ps (max x y) k (min x y) 0 here within) ∙ own
      | inr other ↦
          let root_here = root-root ps k (sym (get_or-set_other ps (max x y) k (min x y) 0 other) ∙ own) in
          ap (joined_root x y) root_here ∙ joined_root-other x y k other
    ])

-- a walk that gives each number its grandparent, from the least on, gives each its root
pub flattened_more : (ps : List ℕ) (at : ℕ) (r : ℕ → ℕ) → IsForest ps → at < length ps → ((k : ℕ) → root ps k ≡ r k) → ((k : ℕ) → k < at → get_or ps k 0 ≡ r k)
    → (k : ℕ) → k < at + 1 → get_or (set ps at (get_or ps (get_or ps at 0) 0)) k 0 ≡ r k
flattened_more ps at r f within same flat k below =
    elim (cases_eq k at) [
      | inl here ↦
          get_or-set_at ps at k (get_or ps (get_or ps at 0) 0) 0 here within
          ∙ elim (cases_lt (get_or ps at 0) at) [
            | inl lower ↦ flat (get_or ps at 0) lower ∙ sym (same (get_or ps at 0)) ∙ root-parent ps at f
            | inr own ↦
                let itself : get_or ps at 0 ≡ at = omega (arith, f at) in
                ap (λ n. get_or ps n 0) itself ∙ itself ∙ sym (root-root ps at itself)
          ]
          ∙ same at ∙ ap r (sym here)
      | inr other ↦ get_or-set_other ps at k (get_or ps (get_or ps at 0) 0) 0 other ∙ flat k (omega arith)
    ]

-- the same, where the roots were asked for in a forest of the same trees
pub joined_after : (old ps : List ℕ) (a b x y high low : ℕ) → IsForest ps → a < length ps → b < length ps → ((k : ℕ) → root ps k ≡ root old k)
    → x ≡ root old a → y ≡ root old b → high ≡ max x y → low ≡ min x y
    → (k : ℕ) → root (set ps high low) k ≡ joined_root (root old a) (root old b) (root old k)
joined_after old ps a b x y high low f within_a within_b same is_x is_y is_high is_low k =
    let x_is : root ps a ≡ x = same a ∙ sym is_x in
    let y_is : root ps b ≡ y = same b ∙ sym is_y in
    let own_x : get_or ps x 0 ≡ x = ap (λ n. get_or ps n 0) (sym x_is) ∙ root-is_root ps a f ∙ x_is in
    let own_y : get_or ps y 0 ≡ y = ap (λ n. get_or ps n 0) (sym y_is) ∙ root-is_root ps b f ∙ y_is in
    ap (λ n. root (set ps n low) k) is_high ∙ ap (λ n. root (set ps (max x y) n) k) is_low
    ∙ joined-root ps x y f (omega (arith, root-below ps a f)) (omega (arith, root-below ps b f)) own_x own_y k
    ∙ ap (joined_root x y) (same k) ∙ ap (λ n. joined_root n y (root old k)) is_x ∙ ap (λ n. joined_root (root old a) n (root old k)) is_y
