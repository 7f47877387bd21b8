-- There is one first fault at most.
use Rattle.std.proofs.Common.{◌≡◌, ◌∙◌, ℕ, inl, inr, refl, sym, ap, subst, arith, get_or, slice_get}
use Rattle.std.proofs.lemmas.Bool.{cases_lt}
use Rattle.std.proofs.lemmas.List.Elements.{Contains-get_or}
use Rattle.dr_base.specs.declared.group_fault.GroupFault.{GroupFault}
use Rattle.dr_base.specs.declared.group_fault.GroupFault.TheVariants.{NotClosed, InTwo, NoMemory}
use Rattle.dr_inventory.specs.declared.estate.Estate.{Estate}
use Rattle.dr_groups.specs.Groups.{IsInGroup, Splits, IsClosed, IsFirstSplit, IsSharedBy, IsFirstShared, IsInOneAtMost, Passes, IsFirstInTwo, IsFirstFault, IsPairOf, IsMachineOf}
use Rattle.std.specs.List.{Contains}
use Rattle.dr_inventory.specs.declared.estate.Machine.{Machine}
use Rattle.dr_groups.proofs.ChainLaws.{same_class-link}
use Rattle.dr_groups.proofs.RowLaws.{found_same}

-- a group that splits a class doesn't hold whole classes
pub split_open : (e : Estate) (g i o : ℕ) → Splits e g i o → ¬ IsClosed e g
split_open e g i o s closed = s.left_out (closed.whole i o s.in_group s.same_class)

split_same : (e : Estate) (g i o h j p : ℕ) → IsFirstSplit e g i o → IsFirstSplit e h j p → NotClosed g i o ≡ NotClosed h j p
split_same e g i o h j p a b =
    let groups : g ≡ h = elim (cases_lt g h) [
      | inl lower ↦ absurd (split_open e g i o a.least.splits (b.first_group g lower))
      | inr from ↦ elim (cases_lt h g) [
        | inl lower ↦ absurd (split_open e h j p b.least.splits (a.first_group h lower))
        | inr to ↦ omega arith
      ]
    ] in
    let P : ℕ → ℕ → ℕ → Type 0 = λ i o n. Splits e n i o in
    let insides : i ≡ j = omega (arith, a.least.least_inside j p (subst (P j p) (sym groups) b.least.splits), b.least.least_inside i o (subst (P i o) groups a.least.splits)) in
    let Q : ℕ → ℕ → ℕ → Type 0 = λ n o i. Splits e n i o in
    let outsides : o ≡ p = omega (
      arith,
      a.least.least_outside p (subst (Q g p) (sym insides) (subst (P j p) (sym groups) b.least.splits)),
      b.least.least_outside o (subst (Q h o) insides (subst (P i o) groups a.least.splits)),
    ) in
    ap (λ n. NotClosed n i o) groups ∙ ap (λ n. NotClosed h n o) insides ∙ ap (λ n. NotClosed h j n) outsides

pub shared_twice : (e : Estate) (d g h : ℕ) → IsSharedBy e d g h → ¬ IsInOneAtMost e d
shared_twice e d g h s apart = let same = apart.same g h s.first s.second in omega (arith, same, s.in_order)

shared_same : (e : Estate) (d g h c i j : ℕ) → IsFirstShared e d g h → IsFirstShared e c i j → InTwo d g h ≡ InTwo c i j
shared_same e d g h c i j a b =
    let datastores : d ≡ c = elim (cases_lt d c) [
      | inl lower ↦ absurd (shared_twice e d g h a.shared (b.first_datastore d lower))
      | inr from ↦ elim (cases_lt c d) [
        | inl lower ↦ absurd (shared_twice e c i j b.shared (a.first_datastore c lower))
        | inr to ↦ omega arith
      ]
    ] in
    let In : ℕ → ℕ → Type 0 = λ k n. IsInGroup e k n in
    let firsts : g ≡ i = omega (arith, a.shared.least i (subst (In i) (sym datastores) b.shared.first), b.shared.least g (subst (In g) datastores a.shared.first)) in
    let seconds : h ≡ j = omega (
      arith,
      a.shared.next j (omega (arith, firsts, b.shared.in_order)) (subst (In j) (sym datastores) b.shared.second),
      b.shared.next h (omega (arith, firsts, a.shared.in_order)) (subst (In h) datastores a.shared.second),
    ) in
    ap (λ n. InTwo n g h) datastores ∙ ap (λ n. InTwo c n h) firsts ∙ ap (λ n. InTwo c i n) seconds

pub is_split : (e : Estate) (f : GroupFault) (g i o : ℕ) → IsFirstFault e f → IsFirstSplit e g i o → ¬ (f ≡ NoMemory) → f ≡ NotClosed g i o
is_split e (NotClosed h j p) g i o first split more = split_same e h j p g i o first split
is_split e (InTwo d h k) g i o first split more = absurd (split_open e g i o split.least.splits (first.closed g))
is_split e NoMemory g i o first split more = absurd (more refl)

pub is_in_two : (e : Estate) (f : GroupFault) (d g h : ℕ) → IsFirstFault e f → IsFirstInTwo e d g h → ¬ (f ≡ NoMemory) → f ≡ InTwo d g h
is_in_two e (NotClosed k j p) d g h first two more = absurd (split_open e k j p first.least.splits (two.closed k))
is_in_two e (InTwo c k j) d g h first two more = shared_same e c k j d g h first.shared two.shared
is_in_two e NoMemory d g h first two more = absurd (more refl)

pub is_no_fault : (e : Estate) (f : GroupFault) → IsFirstFault e f → Passes e → ¬ (f ≡ NoMemory) → ⊥
is_no_fault e (NotClosed k j p) first passes more = split_open e k j p first.least.splits (passes.closed k)
is_no_fault e (InTwo c k j) first passes more = shared_twice e c k j first.shared.shared (passes.apart c)
is_no_fault e NoMemory first passes more = more refl

-- two groups that have datastores of one pair are one group
pub pair_once : (e : Estate) (pair g h : ℕ) → Passes e → IsPairOf e g pair → IsPairOf e h pair → g ≡ h
pair_once e pair g h passes p q =
    let same = same_class-link e p.datastore q.datastore (inr (record { device = pair; other = pair; first = p.named; second = q.named; same = refl })) in
    (passes.apart q.datastore).same g h ((passes.closed g).whole p.datastore q.datastore p.in_group same) q.in_group

-- two groups that have all datastores of one machine are one group
pub machine_once : (e : Estate) (machine g h : ℕ) → Passes e → IsMachineOf e g machine → IsMachineOf e h machine → g ≡ h
machine_once e machine g h passes p q =
    let datastore : ℕ = get_or p.row.datastores 0 0 in
    let Names : Machine → Type 0 = λ r. Contains r.datastores datastore in
    let named : Names p.row = Contains-get_or p.row.datastores 0 0 p.on_some in
    (passes.apart datastore).same g h (p.within datastore named)
    (q.within datastore (subst Names (found_same (slice_get e.machines machine) p.row q.row p.found q.found) named))
