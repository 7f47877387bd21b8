-- From marks and labels to groups that split classes.
use Rattle.std.proofs.Common.{◌≡◌, ◌↔◌, ◌∙◌, ℕ, ◌<◌, ◌≤◌, Bool, false, Option, Some, None, IfSome, List, length, get_or, inl, inr, sym, subst, arith}
use Rattle.std.specs.List.{Contains}
use Rattle.std.proofs.lemmas.Bool.{cases_lt, cases_Bool}
use Rattle.std.proofs.lemmas.Option.{slice_get_within}
use Rattle.dr_inventory.specs.declared.estate.Estate.{Estate}
use Rattle.dr_groups.specs.Links.{SameClass, AreLabels}
use Rattle.dr_groups.specs.Marks.{IsMarked}
use Rattle.dr_groups.specs.Groups.{IsInGroup, Splits, IsClosed, IsLeastSplit}
use Rattle.dr_groups.specs.Searches.{MarksGroup, IsOutside, IsInside}
use Rattle.dr_inventory.specs.Sound.{IsSoundEstate, AllBelow}
use Rattle.std.proofs.lemmas.List.{get_or_default}
use Rattle.dr_groups.proofs.MarkLaws.{marked_within, true_is_not_false}
use Rattle.dr_groups.proofs.RowLaws.{class_within}
use Rattle.dr_groups.proofs.ChainLaws.{same_class-self, same_class-back, same_class-through}

-- marks of exactly these datastores
pub marks_group : (e : Estate) (group : ℕ) (datastores : List ℕ) (marks : List Bool) → length marks ≡ length e.datastores
    → ((d : ℕ) → Contains datastores d ↔ IsInGroup e group d) → ((d : ℕ) → Contains datastores d → IsMarked marks d) → ((d : ℕ) → IsMarked marks d → Contains datastores d) → MarksGroup e group marks
marks_group e group datastores marks long named marked only = record {
  one_each = long;
  exactly = λ d. (λ m. (named d).0 (only d m), λ g. marked d ((named d).1 g));
}

-- two datastores have one label exactly where they are of one class
pub label-same : (e : Estate) (labels : List ℕ) (a b : ℕ) → AreLabels e labels → a < length e.datastores → b < length e.datastores → SameClass e a b → get_or labels a 0 ≡ get_or labels b 0
label-same e labels a b l within_a within_b same =
    let la = l.least a within_a in
    let lb = l.least b within_b in
    omega (
      arith,
      la.below_all (get_or labels b 0) (same_class-through e a b (get_or labels b 0) same lb.in_class),
      lb.below_all (get_or labels a 0) (same_class-through e b a (get_or labels a 0) (same_class-back e a b same) la.in_class),
    )

pub class-same : (e : Estate) (labels : List ℕ) (a b : ℕ) → AreLabels e labels → a < length e.datastores → b < length e.datastores → get_or labels a 0 ≡ get_or labels b 0 → SameClass e a b
class-same e labels a b l within_a within_b same =
    let P : ℕ → Type 0 = λ n. SameClass e a n in
    same_class-through e a (get_or labels b 0) b (subst P same (l.least a within_a).in_class) (same_class-back e b (get_or labels b 0) (l.least b within_b).in_class)

pub labels_below : (e : Estate) (labels : List ℕ) (n : ℕ) → AreLabels e labels → n ≡ length labels → AllBelow n labels
labels_below e labels n l same = λ k d within.
    let here : get_or labels k d ≡ get_or labels k 0 = get_or_default labels k d 0 within in
    omega (arith, here, same, (l.least k (omega (arith, l.one_each))).below_all k (same_class-self e k))

-- a datastore of a class that the group splits is inside, and the one that it lacks is outside
splits-outside : (e : Estate) (group : ℕ) (labels : List ℕ) (marks : List Bool) (a b : ℕ) → IsSoundEstate e → AreLabels e labels → MarksGroup e group marks → Splits e group a b
    → IsOutside labels marks (get_or labels a 0) b
splits-outside e group labels marks a b sound l m s =
    let within_a : a < length e.datastores = omega (arith, marked_within marks a ((m.exactly a).1 s.in_group), m.one_each) in
    let within_b = class_within e a b sound s.same_class within_a in
    record {
      within = omega (arith, within_b, l.one_each);
      labelled = sym (label-same e labels a b l within_a within_b s.same_class);
      unmarked = λ marked. s.left_out ((m.exactly b).0 marked);
    }

splits-inside : (e : Estate) (group : ℕ) (labels : List ℕ) (marks : List Bool) (a b : ℕ) → IsSoundEstate e → AreLabels e labels → MarksGroup e group marks → Splits e group a b → IsInside labels marks a
splits-inside e group labels marks a b sound l m s =
    record { marked = (m.exactly a).1 s.in_group; other = record { datastore = b; outside = splits-outside e group labels marks a b sound l m s } }

splits-from : (e : Estate) (group : ℕ) (labels : List ℕ) (marks : List Bool) (a b : ℕ) → AreLabels e labels → MarksGroup e group marks → IsInside labels marks a → IsOutside labels marks (get_or labels a 0) b → Splits e group a b
splits-from e group labels marks a b l m inside outside = record {
  in_group = (m.exactly a).0 inside.marked;
  same_class = class-same e labels a b l (omega (arith, marked_within marks a inside.marked, m.one_each)) (omega (arith, outside.within, l.one_each)) (sym outside.labelled);
  left_out = λ has. outside.unmarked ((m.exactly b).1 has);
}

-- where nothing is inside, the group holds whole classes
pub none_inside : (e : Estate) (group : ℕ) (labels : List ℕ) (marks : List Bool) → IsSoundEstate e → AreLabels e labels → MarksGroup e group marks → ((k : ℕ) → k < length labels → ¬ IsInside labels marks k) → IsClosed e group
none_inside e group labels marks sound l m none = record {
  whole = λ a b in_group same.
      elim (cases_Bool (get_or marks b false)) [
        | inl marked ↦ (m.exactly b).0 marked
        | inr unmarked ↦
            let splits : Splits e group a b = record { in_group = in_group; same_class = same; left_out = λ has. true_is_not_false (sym ((m.exactly b).1 has) ∙ unmarked) } in
            absurd (none a (omega (arith, marked_within marks a ((m.exactly a).1 in_group), m.one_each, l.one_each)) (splits-inside e group labels marks a b sound l m splits))
      ];
}

-- the least inside and the least outside are the least split
pub split_found : (e : Estate) (group : ℕ) (labels : List ℕ) (marks : List Bool) → IsSoundEstate e → AreLabels e labels → MarksGroup e group marks → (r : Option (ℕ × ℕ))
    → IfSome r (λ p. IsInside labels marks p.0) → IfSome r (λ p. IsOutside labels marks (get_or labels p.0 0) p.1)
    → IfSome r (λ p. (k : ℕ) → k < p.0 → ¬ IsInside labels marks k) → IfSome r (λ p. (k : ℕ) → k < p.1 → ¬ IsOutside labels marks (get_or labels p.0 0) k)
    → IfSome r (λ p. IsLeastSplit e group p.0 p.1)
split_found e group labels marks sound l m None i o li lo = tt
split_found e group labels marks sound l m (Some p) i o li lo = record {
  splits = splits-from e group labels marks p.0 p.1 l m i o;
  least_inside = λ a b s. elim (cases_lt a p.0) [
    | inl below ↦ absurd (li a below (splits-inside e group labels marks a b sound l m s))
    | inr above ↦ above
  ];
  least_outside = λ b s. elim (cases_lt b p.1) [
    | inl below ↦ absurd (lo b below (splits-outside e group labels marks p.0 b sound l m s))
    | inr above ↦ above
  ];
}

-- what is no group holds nothing
pub closed_past : (e : Estate) (i group : ℕ) → length e.groups ≤ i → ((k : ℕ) → k < i → IsClosed e k) → IsClosed e group
closed_past e i group all closed = elim (cases_lt group i) [
  | inl below ↦ closed group below
  | inr past ↦ record { whole = λ a b in_group same. absurd (omega (arith, slice_get_within e.groups group in_group.row in_group.found)) }
]
