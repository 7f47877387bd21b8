-- Datastores that two groups have.
use Rattle.std.proofs.Common.{◌≡◌, ◌↔◌, ◌⊎◌, ◌∙◌, ℕ, ◌+◌, ◌<◌, ◌≤◌, Bool, false, nat_eq, List, length, inl, inr, sym, subst, arith}
use Rattle.std.specs.List.{Contains, IsAnyAnswer}
use Rattle.std.proofs.lemmas.Bool.Decides.{Decides-eqb}
use Rattle.std.proofs.lemmas.List.Elements.{Decides-contains, contains_decides}
use Rattle.std.proofs.lemmas.Option.{slice_get_within}
use Rattle.dr_groups.proofs.MarkLaws.{true_is_not_false}
use Rattle.std.proofs.lemmas.Bool.{cases_lt}
use Rattle.dr_inventory.specs.declared.estate.Estate.{Estate}
use Rattle.dr_groups.specs.Groups.{IsInGroup, IsInOneAtMost, IsSharedBy}
use Rattle.dr_groups.specs.Marks.{IsMarked}
use Rattle.dr_groups.specs.Searches.{IsInGroupBelow, IsSharedBelow, MarksBelow}

-- no group has the datastore
pub apart_none : (e : Estate) (d : ℕ) → ((k : ℕ) → 0 ≤ k → ¬ IsInGroup e k d) → IsInOneAtMost e d
apart_none e d none = record { same = λ g h in_g in_h. absurd (none g (omega arith) in_g) }

-- the least group that has the datastore is the only one
pub apart_one : (e : Estate) (d g : ℕ) → ((k : ℕ) → 0 ≤ k → k < g → ¬ IsInGroup e k d) → ((k : ℕ) → g + 1 ≤ k → ¬ IsInGroup e k d) → IsInOneAtMost e d
apart_one e d g below above = record { same = λ a b in_a in_b. only a in_a ∙ sym (only b in_b) }
  where
    only : (k : ℕ) → IsInGroup e k d → k ≡ g
    only k in_k = elim (cases_lt k g) [
      | inl lower ↦ absurd (below k (omega arith) lower in_k)
      | inr higher ↦ elim (cases_lt g k) [
        | inl beyond ↦ absurd (above k (omega arith) in_k)
        | inr at ↦ omega arith
      ]
    ]

pub shared_two : (e : Estate) (d g h : ℕ) → IsInGroup e g d → IsInGroup e h d → ((k : ℕ) → 0 ≤ k → k < g → ¬ IsInGroup e k d) → g + 1 ≤ h → ((k : ℕ) → g + 1 ≤ k → k < h → ¬ IsInGroup e k d) → IsSharedBy e d g h
shared_two e d g h in_g in_h below over between = record {
  first = in_g;
  second = in_h;
  in_order = omega arith;
  least = λ k in_k. elim (cases_lt k g) [ inl lower ↦ absurd (below k (omega arith) lower in_k) | inr from ↦ from ];
  next = λ k beyond in_k. elim (cases_lt k h) [ inl lower ↦ absurd (between k (omega arith) lower in_k) | inr from ↦ from ];
}

-- one group more that lacks the datastore
pub lacks_more : (e : Estate) (d from i : ℕ) → ((k : ℕ) → from ≤ k → k < i → ¬ IsInGroup e k d) → ¬ IsInGroup e i d → (k : ℕ) → from ≤ k → k < i + 1 → ¬ IsInGroup e k d
lacks_more e d from i before here k above below has = elim (cases_lt k i) [
  | inl lower ↦ before k above lower has
  | inr last ↦ let same : k ≡ i = omega arith in let P : ℕ → Type 0 = λ n. IsInGroup e n d in here (subst P same has)
]

pub lacks_past : (e : Estate) (d from i k : ℕ) → length e.groups ≤ i → ((k : ℕ) → from ≤ k → k < i → ¬ IsInGroup e k d) → from ≤ k → ¬ IsInGroup e k d
lacks_past e d from i k all before above has = before k above (omega (arith, slice_get_within e.groups k has.row has.found)) has

-- the answer of `contains`
pub not_contained : (xs : List ℕ) (x : ℕ) (r : Bool) → IsAnyAnswer (λ y t. nat_eq y x ≡ t) xs r → r ≡ false → ¬ Contains xs x
not_contained xs x r answer fails has = true_is_not_false (sym ((Decides-contains xs x r (contains_decides nat_eq Decides-eqb xs x r answer)).1 has) ∙ fails)

-- no group was looked at, and nothing is marked
pub none_below : (e : Estate) (seen shared : List Bool) → length seen ≡ length e.datastores → length shared ≡ length e.datastores → ((k : ℕ) → ¬ IsMarked seen k) → ((k : ℕ) → ¬ IsMarked shared k) → MarksBelow e 0 seen shared
none_below e seen shared one two unseen unshared = record {
  one_seen = one;
  one_shared = two;
  in_one = λ d. (λ marked. absurd (unseen d marked), λ h. absurd (omega (arith, h.below)));
  in_two = λ d. (λ marked. absurd (unshared d marked), λ h. absurd (omega (arith, h.below)));
}

-- a datastore of one of the groups up to this one
in_one-split : (e : Estate) (i d : ℕ) → IsInGroupBelow e (i + 1) d → IsInGroupBelow e i d ⊎ IsInGroup e i d
in_one-split e i d h = elim (cases_lt h.group i) [
  | inl lower ↦ inl (record { group = h.group; below = lower; named = h.named })
  | inr last ↦ let P : ℕ → Type 0 = λ n. IsInGroup e n d in let same : h.group ≡ i = omega (arith, h.below) in inr (subst P same h.named)
]

in_one-grows : (e : Estate) (i d : ℕ) → IsInGroupBelow e i d → IsInGroupBelow e (i + 1) d
in_one-grows e i d h = record { group = h.group; below = omega (arith, h.below); named = h.named }

in_two-split : (e : Estate) (i d : ℕ) → IsSharedBelow e (i + 1) d → IsSharedBelow e i d ⊎ (IsInGroup e i d × IsInGroupBelow e i d)
in_two-split e i d h = elim (cases_lt h.second i) [
  | inl lower ↦ inl (record { first = h.first; second = h.second; in_order = h.in_order; below = lower; has_first = h.has_first; has_second = h.has_second })
  | inr last ↦
      let P : ℕ → Type 0 = λ n. IsInGroup e n d in
      let same : h.second ≡ i = omega (arith, h.below) in
      inr (subst P same h.has_second, record { group = h.first; below = omega (arith, same, h.in_order); named = h.has_first })
]

in_two-grows : (e : Estate) (i d : ℕ) → IsSharedBelow e i d → IsSharedBelow e (i + 1) d
in_two-grows e i d h = record { first = h.first; second = h.second; in_order = h.in_order; below = omega (arith, h.below); has_first = h.has_first; has_second = h.has_second }

-- one group more is marked as seen
pub seen_more : (e : Estate) (i : ℕ) (old new : List Bool) → ((d : ℕ) → IsMarked old d ↔ IsInGroupBelow e i d) → ((d : ℕ) → IsInGroup e i d → IsMarked new d) → ((d : ℕ) → IsMarked old d → IsMarked new d)
    → ((d : ℕ) → IsMarked new d → IsMarked old d ⊎ IsInGroup e i d) → (d : ℕ) → IsMarked new d ↔ IsInGroupBelow e (i + 1) d
seen_more e i old new before here kept only d = (
  λ marked. elim (only d marked) [ inl was ↦ in_one-grows e i d ((before d).0 was) | inr named ↦ record { group = i; below = omega arith; named = named } ],
  λ h. elim (in_one-split e i d h) [ inl lower ↦ kept d ((before d).1 lower) | inr named ↦ here d named ],
)

-- and what it has of those seen before, as shared
pub shared_more : (e : Estate) (i : ℕ) (seen old new : List Bool) → ((d : ℕ) → IsMarked seen d ↔ IsInGroupBelow e i d) → ((d : ℕ) → IsMarked old d ↔ IsSharedBelow e i d)
    → ((d : ℕ) → IsInGroup e i d → IsMarked seen d → IsMarked new d) → ((d : ℕ) → IsMarked old d → IsMarked new d) → ((d : ℕ) → IsMarked new d → IsMarked old d ⊎ (IsInGroup e i d × IsMarked seen d))
    → (d : ℕ) → IsMarked new d ↔ IsSharedBelow e (i + 1) d
shared_more e i seen old new is_seen before here kept only d = (
  λ marked. elim (only d marked) [
    | inl was ↦ in_two-grows e i d ((before d).0 was)
    | inr both ↦
        let one = (is_seen d).0 both.1 in
        record { first = one.group; second = i; in_order = one.below; below = omega arith; has_first = one.named; has_second = both.0 }
  ],
  λ h. elim (in_two-split e i d h) [
    | inl lower ↦ kept d ((before d).1 lower)
    | inr both ↦ here d both.0 ((is_seen d).1 both.1)
  ],
)

-- what no two groups have is in one at most
pub apart_unshared : (e : Estate) (d : ℕ) → ¬ IsSharedBelow e (length e.groups) d → IsInOneAtMost e d
apart_unshared e d none = record {
  same = λ g h in_g in_h. elim (cases_lt g h) [
    | inl lower ↦ absurd (none (record { first = g; second = h; in_order = lower; below = slice_get_within e.groups h in_h.row in_h.found; has_first = in_g; has_second = in_h }))
    | inr from ↦ elim (cases_lt h g) [
      | inl lower ↦ absurd (none (record { first = h; second = g; in_order = lower; below = slice_get_within e.groups g in_g.row in_g.found; has_first = in_h; has_second = in_g }))
      | inr to ↦ omega arith
    ]
  ];
}

pub shared_not_apart : (e : Estate) (n d : ℕ) → IsSharedBelow e n d → ¬ IsInOneAtMost e d
shared_not_apart e n d h apart = omega (arith, h.in_order, apart.same h.first h.second h.has_first h.has_second)
