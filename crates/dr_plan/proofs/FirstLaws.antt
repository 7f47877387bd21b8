-- The first of all that is wrong with a row.
use Rattle.std.proofs.Common.{◌≡◌, ◌∙◌, ◌+◌, ◌<◌, ℕ, ℤ, Bool, length, get_or, drop, unwrap_or, List, [], ◌∷◌, ◌++◌, map, filter, find, flat_map, Option, Some, None, not, is_some, option_map, refl, sym, ap}
use Rattle.std.specs.Ordering.{nat_cmp}
use Rattle.std.specs.Cmp.Lexicographic.{slice_cmp}
use Rattle.std.specs.BTreeMap.{BTreeMap, get}
use Rattle.dr_base.specs.declared.plan_fault.PlanFault.{PlanFault}
use Rattle.dr_base.specs.declared.plan_fault.PlanFault.TheVariants.{UnknownGroup, GroupTwice, UnknownMachine, BadPriority, OtherPriority}
use Rattle.std.proofs.lemmas.List.{drop_more}
use Rattle.std.proofs.lemmas.Option.{same_Some}
use Rattle.dr_inventory.specs.declared.estate.PlanMachineRow.{PlanMachineRow}
use Rattle.dr_inventory.specs.declared.estate.PlanRow.{PlanRow}
use Rattle.dr_inventory.specs.declared.estate.Estate.{Estate}
use Rattle.dr_inventory.specs.Names.{first, place, number, unknown, twice_in}
use Rattle.dr_inventory.specs.Places.{number_in}
use Rattle.dr_inventory.proofs.PlaceLaws.{first_filter}
use Rattle.dr_inventory.specs.declared.members.Members.{Members}
use Rattle.dr_plan.specs.Rows.{group_names, machine_names, machine_number, is_planned, is_priority}
use Rattle.dr_plan.specs.Faults.{unknown_groups, groups_twice, named_machines, other_pairs, unknown_machines, bad_priorities, other_priorities, name_faults}
use Rattle.dr_plan.specs.Lookups.{IsPlaces, number_and_priority}

pub first_front : {X : Type 0} (xs ys : List X) (x : X) → first xs ≡ Some x → first (xs ++ ys) ≡ Some x
first_front [] ys x h = cc
first_front (y ∷ xs) ys x h = h

pub first_after : {X : Type 0} (xs ys : List X) (x : X) → xs ≡ [] → first ys ≡ Some x → first (xs ++ ys) ≡ Some x
first_after [] ys x none h = h
first_after (y ∷ xs) ys x none h = cc

pub first_mapped : {X Y : Type 0} (f : X → Y) (xs : List X) (x : X) → Some x ≡ first xs → first (map f xs) ≡ Some (f x)
first_mapped f [] x h = cc
first_mapped f (y ∷ xs) x h = ap (option_map f) (sym h)

pub none_mapped : {X Y : Type 0} (f : X → Y) (xs : List X) → None ≡ first xs → map f xs ≡ []
none_mapped f [] h = refl
none_mapped f (y ∷ xs) h = cc

-- the same names are missing from a list and from the places of it
missing_same : (names : List (List ℕ)) (places : BTreeMap (List ℕ) ℕ) (ns : List (List ℕ)) → IsPlaces names places
    → find (λ n. not (is_some (get (slice_cmp nat_cmp) places n))) ns ≡ first (unknown (λ x. x) names ns)
missing_same names places ns are = (λ i. find (λ n. not (is_some (are n i))) ns) ∙ sym (first_filter (λ n. not (is_some (place (λ x. x) names n))) ns)

missing_in : (estate : Estate) (names ns : List (List ℕ)) (row : PlanRow) (places : BTreeMap (List ℕ) ℕ) → IsPlaces names places → names ≡ group_names estate → ns ≡ row.groups
    → find (λ n. not (is_some (get (slice_cmp nat_cmp) places n))) ns ≡ first (unknown (λ x. x) (group_names estate) row.groups)
missing_in estate names ns row places are same groups =
    missing_same names places ns are ∙ ap (λ xs. first (unknown (λ x. x) xs ns)) same ∙ ap (λ xs. first (unknown (λ x. x) (group_names estate) xs)) groups

pub unknown_group_told : (estate : Estate) (members : Members) (names ns : List (List ℕ)) (row : PlanRow) (places : BTreeMap (List ℕ) ℕ) (n : List ℕ) → IsPlaces names places → names ≡ group_names estate → ns ≡ row.groups
    → Some n ≡ find (λ m. not (is_some (get (slice_cmp nat_cmp) places m))) ns → first (name_faults estate members row) ≡ Some (UnknownGroup n)
unknown_group_told estate members names ns row places n are same groups found =
    first_front (unknown_groups estate row) _ (UnknownGroup n) (first_mapped (λ m. UnknownGroup m) (unknown (λ x. x) (group_names estate) row.groups) n (found ∙ missing_in estate names ns row places are same groups))

pub groups_known : (estate : Estate) (names ns : List (List ℕ)) (row : PlanRow) (places : BTreeMap (List ℕ) ℕ) → IsPlaces names places → names ≡ group_names estate → ns ≡ row.groups
    → None ≡ find (λ m. not (is_some (get (slice_cmp nat_cmp) places m))) ns → unknown_groups estate row ≡ []
groups_known estate names ns row places are same groups none = none_mapped (λ m. UnknownGroup m) (unknown (λ x. x) (group_names estate) row.groups) (none ∙ missing_in estate names ns row places are same groups)

pub group_twice_told : (estate : Estate) (members : Members) (ns : List (List ℕ)) (row : PlanRow) (n : List ℕ) → unknown_groups estate row ≡ [] → ns ≡ row.groups → Some n ≡ first (twice_in ns)
    → first (name_faults estate members row) ≡ Some (GroupTwice n)
group_twice_told estate members ns row n known groups found =
    first_after (unknown_groups estate row) _ (GroupTwice n) known (first_front (groups_twice row) _ (GroupTwice n) (first_mapped (λ m. GroupTwice m) (twice_in row.groups) n (found ∙ ap (λ xs. first (twice_in xs)) groups)))

pub groups_once : (ns : List (List ℕ)) (row : PlanRow) → ns ≡ row.groups → None ≡ first (twice_in ns) → groups_twice row ≡ []
groups_once ns row groups none = none_mapped (λ m. GroupTwice m) (twice_in row.groups) (none ∙ ap (λ xs. first (twice_in xs)) groups)

-- what a row of a list gives first
rows_more : {X Y : Type 0} (f : X → List Y) (xs : List X) (i : ℕ) (x : X) → i < length xs → x ≡ get_or xs i x → flat_map f (drop i xs) ≡ f x ++ flat_map f (drop (i + 1) xs)
rows_more f xs i x h e = ap (flat_map f) (drop_more xs i x h ∙ ap (λ y. y ∷ drop (i + 1) xs) (sym e))

pub rows_here : {X Y : Type 0} (f : X → List Y) (xs : List X) (i : ℕ) (x : X) (y : Y) → i < length xs → x ≡ get_or xs i x → first (f x) ≡ Some y → first (flat_map f (drop i xs)) ≡ Some y
rows_here f xs i x y h e found = ap first (rows_more f xs i x h e) ∙ first_front (f x) (flat_map f (drop (i + 1) xs)) y found

pub rows_next : {X Y : Type 0} (f : X → List Y) (xs : List X) (i : ℕ) (x : X) → i < length xs → x ≡ get_or xs i x → f x ≡ [] → flat_map f (drop (i + 1) xs) ≡ flat_map f (drop i xs)
rows_next f xs i x h e none = sym (rows_more f xs i x h e ∙ ap (λ ys. ys ++ flat_map f (drop (i + 1) xs)) none)

-- the first of those that pass, as a pair
pub pair_found : {X Y : Type 0} (g : X → Y) (p : X → Bool) (xs : List X) (x : X) → Some x ≡ find p xs → first (map g (filter p xs)) ≡ Some (g x)
pair_found g p xs x found = first_mapped g (filter p xs) x (found ∙ sym (first_filter p xs))

pub none_found : {X Y : Type 0} (g : X → Y) (p : X → Bool) (xs : List X) → None ≡ find p xs → map g (filter p xs) ≡ []
none_found g p xs none = none_mapped g (filter p xs) (none ∙ sym (first_filter p xs))

told_by : {X Y Z : Type 0} (f : X → Y) (h : X → Z) (g : Y → Z) → ((x : X) → g (f x) ≡ h x) → (o : Option X) (y : Y) → Some y ≡ option_map f o → option_map h o ≡ Some (g y)
told_by f h g each None y e = cc
told_by f h g each (Some x) y e = ap (λ z. Some z) (sym (each x) ∙ ap g (sym (same_Some y (f x) e)))

none_by : {X Y : Type 0} (f : X → Y) (o : Option X) → None ≡ option_map f o → None ≡ o
none_by f None e = refl
none_by f (Some x) e = cc

first_map : {X Y : Type 0} (f : X → Y) (xs : List X) → first (map f xs) ≡ option_map f (first xs)
first_map f [] = refl
first_map f (x ∷ xs) = refl

-- the numbers of names that have places are the machines'
pub numbers_same : (estate : Estate) (names : List (List ℕ)) (places : BTreeMap (List ℕ) ℕ) → IsPlaces names places → names ≡ machine_names estate → (n : List ℕ) → number_in places n ≡ machine_number estate n
numbers_same estate names places are same n = ap (λ (o : Option ℕ). unwrap_or o 0) (are n) ∙ ap (λ (xs : List (List ℕ)). number (λ x. x) xs n) same

-- what stands before a fault
after_two : (estate : Estate) (members : Members) (row : PlanRow) (f : PlanFault) → unknown_groups estate row ≡ [] → groups_twice row ≡ [] → first (unknown_machines estate members row ++ (bad_priorities estate row ++ other_priorities estate row)) ≡ Some f
    → first (name_faults estate members row) ≡ Some f
after_two estate members row f known once h = first_after (unknown_groups estate row) _ f known (first_after (groups_twice row) _ f once h)

pub unknown_machine_told : (estate : Estate) (members : Members) (row : PlanRow) (test : List ℕ → Bool) (rows : List PlanMachineRow) (n : List ℕ) → unknown_groups estate row ≡ [] → groups_twice row ≡ []
    → ((m : List ℕ) → test m ≡ is_planned estate members row m) → rows ≡ row.machine → Some n ≡ find (λ m. not (test m)) (flat_map named_machines rows) → first (name_faults estate members row) ≡ Some (UnknownMachine n)
unknown_machine_told estate members row test rows n known once same read found =
    after_two estate members row (UnknownMachine n) known once
    (first_front (unknown_machines estate members row) _ (UnknownMachine n)
    (pair_found (λ m. UnknownMachine m) (λ m. not (is_planned estate members row m)) (flat_map named_machines row.machine) n
    (found ∙ (λ i. find (λ m. not (same m i)) (flat_map named_machines rows)) ∙ ap (λ xs. find (λ m. not (is_planned estate members row m)) (flat_map named_machines xs)) read)))

pub machines_known : (estate : Estate) (members : Members) (row : PlanRow) (test : List ℕ → Bool) (rows : List PlanMachineRow) → ((m : List ℕ) → test m ≡ is_planned estate members row m) → rows ≡ row.machine
    → None ≡ find (λ m. not (test m)) (flat_map named_machines rows) → unknown_machines estate members row ≡ []
machines_known estate members row test rows same read none =
    none_found (λ m. UnknownMachine m) (λ m. not (is_planned estate members row m)) (flat_map named_machines row.machine)
    (none ∙ (λ i. find (λ m. not (same m i)) (flat_map named_machines rows)) ∙ ap (λ xs. find (λ m. not (is_planned estate members row m)) (flat_map named_machines xs)) read)

told_pair : ℕ × ℤ → PlanFault
told_pair p = BadPriority p.0 p.1

bad_row : Estate → PlanMachineRow → PlanFault
bad_row estate m = BadPriority (machine_number estate m.name) m.priority

pub bad_priority_told : (estate : Estate) (members : Members) (row : PlanRow) (number_of : List ℕ → ℕ) (rows : List PlanMachineRow) (p : ℕ × ℤ) → unknown_groups estate row ≡ [] → groups_twice row ≡ [] → unknown_machines estate members row ≡ []
    → ((n : List ℕ) → number_of n ≡ machine_number estate n) → rows ≡ row.machine → Some p ≡ option_map (number_and_priority number_of) (find (λ m. not (is_priority m.priority)) rows)
    → first (name_faults estate members row) ≡ Some (BadPriority p.0 p.1)
unfolding told_pair bad_row
bad_priority_told estate members row number_of rows p known once machines same read found =
    let bad : PlanMachineRow → Bool = λ m. not (is_priority m.priority) in
    after_two estate members row (told_pair p) known once
    (first_after (unknown_machines estate members row) _ (told_pair p) machines
    (first_front (bad_priorities estate row) _ (told_pair p)
    (first_map (bad_row estate) (filter bad row.machine) ∙ ap (option_map (bad_row estate)) (first_filter bad row.machine)
    ∙ told_by (number_and_priority number_of) (bad_row estate) told_pair (λ m. ap (λ k. BadPriority k m.priority) (same m.name)) (find bad row.machine) p
    (found ∙ ap (λ xs. option_map (number_and_priority number_of) (find bad xs)) read))))

pub priorities_right : (estate : Estate) (row : PlanRow) (number_of : List ℕ → ℕ) (rows : List PlanMachineRow) → rows ≡ row.machine → None ≡ option_map (number_and_priority number_of) (find (λ m. not (is_priority m.priority)) rows) → bad_priorities estate row ≡ []
unfolding bad_row
priorities_right estate row number_of rows read none =
    let bad : PlanMachineRow → Bool = λ m. not (is_priority m.priority) in
    none_found (bad_row estate) bad row.machine (none_by (number_and_priority number_of) (find bad rows) none ∙ ap (find bad) read)

other_of : ℕ × ℕ → PlanFault
other_of p = OtherPriority p.0 p.1

pairs_same : (estate : Estate) (row : PlanRow) (number_of : List ℕ → ℕ) → ((n : List ℕ) → number_of n ≡ machine_number estate n)
    → first (flat_map (other_pairs number_of row) row.machine) ≡ first (flat_map (other_pairs (machine_number estate) row) row.machine)
pairs_same estate row number_of same =
    let functions : number_of ≡ machine_number estate = λ i n. same n i in
    ap (λ (f : List ℕ → ℕ). first (flat_map (other_pairs f row) row.machine)) functions

pub other_priority_told : (estate : Estate) (members : Members) (row : PlanRow) (number_of : List ℕ → ℕ) (p : ℕ × ℕ) → unknown_groups estate row ≡ [] → groups_twice row ≡ [] → unknown_machines estate members row ≡ [] → bad_priorities estate row ≡ []
    → ((n : List ℕ) → number_of n ≡ machine_number estate n) → Some p ≡ first (flat_map (other_pairs number_of row) row.machine) → first (name_faults estate members row) ≡ Some (OtherPriority p.0 p.1)
unfolding other_of
other_priority_told estate members row number_of p known once machines priorities same found =
    after_two estate members row (other_of p) known once
    (first_after (unknown_machines estate members row) _ (other_of p) machines
    (first_after (bad_priorities estate row) _ (other_of p) priorities
    (first_mapped other_of (flat_map (other_pairs (machine_number estate) row) row.machine) p (found ∙ pairs_same estate row number_of same))))

pub same_priorities : (estate : Estate) (row : PlanRow) (number_of : List ℕ → ℕ) → ((n : List ℕ) → number_of n ≡ machine_number estate n) → None ≡ first (flat_map (other_pairs number_of row) row.machine) → other_priorities estate row ≡ []
unfolding other_of
same_priorities estate row number_of same none = none_mapped other_of (flat_map (other_pairs (machine_number estate) row) row.machine) (none ∙ pairs_same estate row number_of same)

-- nothing is wrong with the names and the priorities
pub names_right : (estate : Estate) (members : Members) (row : PlanRow) → unknown_groups estate row ≡ [] → groups_twice row ≡ [] → unknown_machines estate members row ≡ [] → bad_priorities estate row ≡ [] → other_priorities estate row ≡ []
    → name_faults estate members row ≡ []
names_right estate members row a b c d e = rw (a, b, c, d) e
