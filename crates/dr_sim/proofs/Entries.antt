-- Where entries are least devices, a simulated array's consistency groups are those of its estate.
use Rattle.std.proofs.Common.{◌≡◌, ◌∙◌, ℕ, ◌<◌, ◌≤◌, ◌⊎◌, inl, inr, List, length, get_or, refl, sym, ap, subst, arith}
use Rattle.std.proofs.lemmas.Bool.{cases_Bool, cases_order}
use Rattle.std.proofs.lemmas.List.{get_or_past}
use Rattle.dr_inventory.specs.declared.estate.Estate.{Estate}
use Rattle.dr_inventory.specs.Sound.{IsSoundEstate}
use Rattle.dr_inventory.specs.Consistency.{HasLeastEntries}
use Rattle.dr_groups.specs.Consistency.{HasConsistencyGroups}
use Rattle.dr_outside.specs.Arrays.{IsLeastOfClass}
use Rattle.dr_sim.specs.declared.faults.ArrayFault.{ArrayFault}
use Rattle.dr_sim.specs.declared.production.Write.{Write}
use Rattle.dr_sim.specs.Arrays.{SimArrayState, state_of, Goes}
use Rattle.dr_sim.specs.Groups.{leads, least_of}
use Rattle.dr_sim.specs.Openings.{IsOpening}

below_or_past : (i n : ℕ) → (i < n) ⊎ (n ≤ i)
below_or_past i n = elim (cases_order i n) [
  | inl e ↦ inr (omega arith)
  | inr o ↦ elim o [ inl lt ↦ inl lt | inr gt ↦ inr (omega arith) ]
]

module _ (estate : Estate) (sound : IsSoundEstate estate) (entries : HasLeastEntries estate) where
  -- past the last device there is no entry
  past : (i : ℕ) → length estate.devices ≤ i → get_or estate.consistency i 0 ≡ 0
  past i h = get_or_past estate.consistency i 0 (omega (arith, sound.numbers.one_entry_each, h))

  first : get_or estate.consistency 0 0 ≡ 0
  first = elim (below_or_past 0 (length estate.devices)) [
    | inl h ↦ omega (arith, entries.least 0 h)
    | inr h ↦ past 0 h
  ]

  -- each entry is the least device of a class
  least_class : IsLeastOfClass (λ i. get_or estate.consistency i 0)
  least_class = record {
    below = λ i. elim (below_or_past i (length estate.devices)) [
      | inl h ↦ entries.least i h
      | inr h ↦ omega (arith, past i h)
    ];
    again = λ i. elim (below_or_past i (length estate.devices)) [
      | inl h ↦ entries.in_group i h
      | inr h ↦ rw (past i h) first
    ];
  }

-- an entry that is the least device of a class is its pair's group
group_is_entry : (entries : List ℕ) → IsLeastOfClass (λ i. get_or entries i 0) → (i : ℕ) → least_of entries i ≡ get_or entries i 0
group_is_entry entries least i =
    elim (cases_Bool (leads entries i)) [
      | inl h ↦ rw h refl
      | inr h ↦ let below = least.below i in let again = least.again i in rw h (grind arith)
    ]

-- the groups of an array at first
pub opening_groups : (estate : Estate) (writes : List (ℕ × ℕ)) (to_fail : List ArrayFault) (to_write : List Write) (array : SimArrayState) → IsSoundEstate estate → HasLeastEntries estate → IsOpening estate writes to_fail to_write array
    → (i : ℕ) → least_of array.entries i ≡ get_or estate.consistency i 0
opening_groups estate writes to_fail to_write array sound entries opening i =
    ap (λ es. least_of es i) opening.entries ∙ group_is_entry estate.consistency (least_class estate sound entries) i

-- which are those of the estate
pub opening_has_groups : (estate : Estate) (writes : List (ℕ × ℕ)) (to_fail : List ArrayFault) (to_write : List Write) (array : SimArrayState) → IsSoundEstate estate → HasLeastEntries estate → IsOpening estate writes to_fail to_write array
    → HasConsistencyGroups estate (state_of array).group
opening_has_groups estate writes to_fail to_write array sound entries opening =
    let group_is : (i : ℕ) → least_of array.entries i ≡ get_or estate.consistency i 0 = opening_groups estate writes to_fail to_write array sound entries opening in
    record { together = λ group p q p_of q_of same. group_is p ∙ same ∙ sym (group_is q) }

-- a call changes no group
pub goes_with_groups : (estate : Estate) (old new : SimArrayState) → HasConsistencyGroups estate (state_of old).group → Goes old new → HasConsistencyGroups estate (state_of new).group
goes_with_groups estate old new has goes = subst (λ (entries : List ℕ). HasConsistencyGroups estate (least_of entries)) (sym goes.entries) has
