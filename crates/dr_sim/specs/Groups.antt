-- Consistency groups of an array, and of a list of its pairs.
use Rattle.std.specs.Prelude.{ℕ, Bool, not, ◌&&◌, ◌==◌, if◌then◌else◌, List, [], ◌∷◌, filter, slice_index, nat_le}
use Rattle.std.proofs.Common.{refl, arith, inl, inr}
use Rattle.std.proofs.lemmas.Bool.{cases_Bool}
use Rattle.dr_outside.specs.Arrays.{IsLeastOfClass}

-- whether a pair's entry is the least pair of a class: it isn't greater than the pair, and is its own entry
abbrev pub leads : List ℕ → ℕ → Bool
leads entries i = nat_le (slice_index entries i) i && (slice_index entries (slice_index entries i) == slice_index entries i)

-- the least pair of a pair's consistency group: its entry, or the pair itself where that is no least pair
abbrev pub least_of : List ℕ → ℕ → ℕ
least_of entries i = if leads entries i then slice_index entries i else i

-- the consistency groups of a list, each once, in the order of their first pairs there
abbrev pub groups_of : (ℕ → ℕ) → List ℕ → List ℕ
groups_of group [] = []
groups_of group (k ∷ rest) = group k ∷ filter (λ g. not (g == group k)) (groups_of group rest)

-- every pair has the least pair of a class
pub least_of_class : (entries : List ℕ) → IsLeastOfClass (least_of entries)
least_of_class entries = record {
  below = λ i. elim (cases_Bool (leads entries i)) [
    | inl h ↦ rw h (grind arith)
    | inr h ↦ rw h (omega arith)
  ];
  again = λ i. elim (cases_Bool (leads entries i)) [
    | inl h ↦ rw h (grind arith)
    | inr h ↦ rw (h, h) refl
  ];
}
