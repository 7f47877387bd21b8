-- What groups hold is one, and so is what is wrong with them.
use Rattle.std.proofs.Common.{◌≡◌, ◌≢◌, ◌∙◌, ℕ, zero, suc, ◌+◌, ◌<◌, ◌⊎◌, List, [], ◌∷◌, length, get_or, Some, slice_get, inl, inr, refl, sym, arith}
use Rattle.std.specs.List.{Contains}
use Rattle.std.specs.List.Sorted.{IsStrictlyIncreasing}
use Rattle.std.proofs.lemmas.List.Kept.{AllPairs-from_increasing}
use Rattle.std.proofs.lemmas.List.Elements.{All-contains}
use Rattle.std.proofs.lemmas.Option.{slice_get_within}
use Rattle.dr_base.specs.declared.group_fault.GroupFault.{GroupFault}
use Rattle.dr_base.specs.declared.group_fault.GroupFault.TheVariants.{NotClosed, InTwo, NoMemory}
use Rattle.dr_inventory.specs.declared.estate.Estate.{Estate}
use Rattle.dr_inventory.specs.Sound.{AllBelow, IsSoundEstate}
use Rattle.dr_inventory.specs.declared.members.Members.{Members}
use Rattle.dr_groups.specs.Marks.{ListsAscending}
use Rattle.dr_groups.specs.Groups.{IsInGroup, IsFirstFault, ListsByGroup, AreMembersOf}
use Rattle.dr_groups.proofs.RowLaws.{found_contained, class_within}
use Rattle.dr_groups.proofs.FaultLaws.{is_split, is_in_two}

-- a number at a place of a list is its first or one of the others
inside_at : (x : ℕ) (xs : List ℕ) (k i : ℕ) → i < length (x ∷ xs) → get_or (x ∷ xs) i k ≡ k → (x ≡ k) ⊎ Contains xs k
inside_at x xs k zero below is = inl is
inside_at x xs k (suc i) below is = inr (i, omega (arith, below), is)

inside : (x : ℕ) (xs : List ℕ) (k : ℕ) → Contains (x ∷ xs) k → (x ≡ k) ⊎ Contains xs k
inside x xs k h = inside_at x xs k h.0 h.1 h.2

behind : (x : ℕ) (xs : List ℕ) (k : ℕ) → Contains xs k → Contains (x ∷ xs) k
behind x xs k h = (suc h.0, omega (arith, h.1), h.2)

-- a list contains its first number
pub contains_first : (x : ℕ) (xs : List ℕ) → Contains (x ∷ xs) x
contains_first x xs = (zero, omega arith, refl)

nothing_inside : (k : ℕ) → ¬ Contains [] k
nothing_inside k h = omega (arith, h.1)

later_at : (x : ℕ) (xs : List ℕ) → IsStrictlyIncreasing (x ∷ xs) → (k i : ℕ) → i < length xs → get_or xs i k ≡ k → x < k
later_at x xs up k i below is =
    let within : suc i < length (x ∷ xs) = omega (arith, below) in
    let less : x < get_or xs i k = AllPairs-from_increasing (x ∷ xs) up zero (suc i) k (omega arith) within in
    omega (arith, less, is)

later : (x : ℕ) (xs : List ℕ) → IsStrictlyIncreasing (x ∷ xs) → (k : ℕ) → Contains xs k → x < k
later x xs up k h = later_at x xs up k h.0 h.1 h.2

tail_up : (x : ℕ) (xs : List ℕ) → IsStrictlyIncreasing (x ∷ xs) → IsStrictlyIncreasing xs
tail_up x xs up = λ k h.
    let within : suc (k + 1) < length (x ∷ xs) = omega (arith, h) in
    AllPairs-from_increasing (x ∷ xs) up (suc k) (suc (k + 1)) 0 (omega arith) within

one_list : (xs ys : List ℕ) → IsStrictlyIncreasing xs → IsStrictlyIncreasing ys → ((k : ℕ) → Contains xs k → Contains ys k) → ((k : ℕ) → Contains ys k → Contains xs k) → xs ≡ ys
one_list [] [] up up' there back = refl
one_list [] (y ∷ ys) up up' there back = absurd (nothing_inside y (back y (contains_first y ys)))
one_list (x ∷ xs) [] up up' there back = absurd (nothing_inside x (there x (contains_first x xs)))
one_list (x ∷ xs) (y ∷ ys) up up' there back =
    let same : x ≡ y = elim (inside y ys x (there x (contains_first x xs))) [
      | inl e ↦ sym e
      | inr h ↦ elim (inside x xs y (back y (contains_first y ys))) [
        | inl e ↦ e
        | inr h' ↦ absurd (omega (arith, later y ys up' x h, later x xs up y h'))
      ]
    ] in
    let rest : xs ≡ ys = one_list xs ys (tail_up x xs up) (tail_up y ys up')
    (λ k h. elim (inside y ys k (there k (behind x xs k h))) [
      | inl e ↦ absurd (omega (arith, later x xs up k h, e, same))
      | inr h' ↦ h'
    ])
    (λ k h. elim (inside x xs k (back k (behind y ys k h))) [
      | inl e ↦ absurd (omega (arith, later y ys up' k h, e, same))
      | inr h' ↦ h'
    ]) in
    rw (same, rest) refl

-- ascending lists of the same numbers are one
pub one_ascending : (P : ℕ → Type 0) (xs ys : List ℕ) → ListsAscending P xs → ListsAscending P ys → xs ≡ ys
one_ascending P xs ys a b = one_list xs ys a.ascending b.ascending (λ k h. (b.exactly k).1 ((a.exactly k).0 h)) (λ k h. (a.exactly k).1 ((b.exactly k).0 h))

-- lists that are as long, and the same at each place, are one
pub one_by_place : {X : Type 0} (xs ys : List X) → length xs ≡ length ys → ((k : ℕ) (x y : X) → slice_get xs k ≡ Some x → slice_get ys k ≡ Some y → x ≡ y) → xs ≡ ys
one_by_place [] [] long same = refl
one_by_place [] (y ∷ ys) long same = absurd (omega (arith, long))
one_by_place (x ∷ xs) [] long same = absurd (omega (arith, long))
one_by_place (x ∷ xs) (y ∷ ys) long same =
    let head : x ≡ y = same zero x y refl refl in
    let rest : xs ≡ ys = one_by_place xs ys (omega (arith, long)) (λ k a b at at'. same (suc k) a b at at') in
    rw (head, rest) refl

one_lists : (e : Estate) (Belongs : ℕ → ℕ → Type 0) (xs ys : List (List ℕ)) → ListsByGroup e Belongs xs → ListsByGroup e Belongs ys → xs ≡ ys
one_lists e Belongs xs ys a b = one_by_place xs ys (a.one_each ∙ sym b.one_each) (λ k x y at at'. one_ascending (Belongs k) x y (a.each k x at) (b.each k y at'))

-- what the groups hold is one
pub one_members : (e : Estate) (m n : Members) → AreMembersOf e m → AreMembersOf e n → m ≡ n
one_members e m n a b =
    let pairs : m.pairs ≡ n.pairs = one_lists e _ m.pairs n.pairs a.pairs b.pairs in
    let machines : m.machines ≡ n.machines = one_lists e _ m.machines n.machines a.machines b.machines in
    λ i. record { pairs = pairs i; machines = machines i }

-- the groups have one first fault; that they have none where they pass is `is_no_fault`
pub one_group_fault : (e : Estate) (f g : GroupFault) → IsFirstFault e f → IsFirstFault e g → f ≢ NoMemory → g ≢ NoMemory → f ≡ g
one_group_fault e f (NotClosed h i o) a b more more' = is_split e f h i o a b more
one_group_fault e f (InTwo d h k) a b more more' = is_in_two e f d h k a b more
one_group_fault e f NoMemory a b more more' = absurd (more' refl)

-- a group that has a datastore is one of the estate's, and so is the datastore
pub group_within : (e : Estate) (g d : ℕ) → IsInGroup e g d → g < length e.groups
group_within e g d h = slice_get_within e.groups g h.row h.found

pub grouped_within : (e : Estate) (g d : ℕ) → IsSoundEstate e → IsInGroup e g d → d < length e.datastores
grouped_within e g d sound h =
    All-contains (λ k. k < length e.datastores) h.row.datastores d
    (All-contains (λ r. AllBelow (length e.datastores) r.datastores) e.groups h.row sound.numbers.group_datastores (found_contained e.groups g h.row h.found)) h.named

-- the numbers that a fault of groups tells are the estate's
pub split_within : (e : Estate) (g i o : ℕ) → IsSoundEstate e → IsFirstFault e (NotClosed g i o) → (g < length e.groups) × (i < length e.datastores) × (o < length e.datastores)
split_within e g i o sound first =
    let splits = first.least.splits in
    let inner : i < length e.datastores = grouped_within e g i sound splits.in_group in
    (group_within e g i splits.in_group, inner, class_within e i o sound splits.same_class inner)

pub shared_within : (e : Estate) (d g h : ℕ) → IsSoundEstate e → IsFirstFault e (InTwo d g h) → (d < length e.datastores) × (g < length e.groups) × (h < length e.groups)
shared_within e d g h sound first =
    let shared = first.shared.shared in
    (grouped_within e g d sound shared.first, group_within e g d shared.first, group_within e h d shared.second)
