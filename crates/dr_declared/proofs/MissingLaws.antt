-- The least machine that lacks a map, list by list and group by group.
use Rattle.std.proofs.Common.{◌≡◌, ℕ, ◌+◌, ◌≤◌, ◌<◌, inl, inr, Bool, true, false, List, Contains, refl, sym, ◌∙◌, ap, subst, arith}
use Rattle.std.proofs.lemmas.Bool.{cases_lt, cases_eq, lt-ltb, le-ltb}
use Rattle.std.proofs.Common.{length, get_or, is_some}
use Rattle.std.proofs.lemmas.List.{get_or_default}
use Rattle.std.proofs.lemmas.List.Elements.{Contains-get_or}
use Rattle.std.proofs.lemmas.List.Kept.{AllPairs-from_increasing}
use Rattle.std.specs.List.Sorted.{IsStrictlyIncreasing}
use Rattle.std.proofs.lemmas.Option.{slice_get_within, slice_get-get_or}
use Rattle.dr_inventory.specs.Sound.{AllBelow}
use Rattle.dr_groups.specs.Groups.{AreMembersOf, IsMachineOf}
use Rattle.std.specs.Option.{option_or}
use Rattle.std.specs.Prelude.{Option, Some, None, IsNone, IfSome, unwrap_or, nat_lt, slice_get, if◌then◌else◌}
use Rattle.dr_base.specs.declared.side.Side.{Side}
use Rattle.dr_base.specs.Sides.{other}
use Rattle.dr_base.specs.declared.placement.Unmapped.{Unmapped}
use Rattle.dr_inventory.specs.declared.estate.GroupRow.{GroupRow}
use Rattle.dr_inventory.specs.declared.estate.Estate.{Estate}
use Rattle.dr_inventory.specs.declared.members.Members.{Members}
use Rattle.dr_mappings.specs.Placements.{place_of, placed, network_at, folder_at, pool_at, network_in}
use Rattle.dr_declared.specs.Missing.{lacking, missing, IsHeldBy, Lacks, AreAllPlaced, IsFirstUnmapped, IsFirstOfGroup, IsFirstOfList, FirstBelow, IsFirstBelow, NoneBelow, lesser}

-- one look finds one row
found_same : {X : Type 0} (o : Option X) (x y : X) → o ≡ Some x → o ≡ Some y → x ≡ y
found_same o x y a b = ap (λ p. unwrap_or p x) (sym a ∙ b)

-- the machine of a map that is missing, or this one
abbrev machine_or : ℕ → Option Unmapped → ℕ
machine_or machine None = machine
machine_or machine (Some unmapped) = unmapped.machine

-- a map that is missing is told with the machine that lacks it
abbrev Own : ℕ → Option Unmapped → Type 0
Own machine lacks = machine_or machine lacks ≡ machine

own_placed : (machine : ℕ) (side : Side) (network folder pool used : Option (List ℕ)) → Own machine (lacking (placed machine side network folder pool used))
own_placed machine side None folder pool used = refl
own_placed machine side (Some network) None pool used = refl
own_placed machine side (Some network) (Some folder) None used = refl
own_placed machine side (Some network) (Some folder) (Some pool) None = refl
own_placed machine side (Some network) (Some folder) (Some pool) (Some used) = refl

own_or : (machine : ℕ) (a b : Option Unmapped) → Own machine a → Own machine b → Own machine (option_or a b)
own_or machine None b here there = there
own_or machine (Some u) b here there = here

own_missing : (estate : Estate) (machine : ℕ) (home : Side) → Own machine (missing estate machine home)
unfolding place_of
own_missing estate machine home =
    own_or machine (lacking (place_of estate machine home (other home) false)) (option_or (lacking (place_of estate machine home (other home) true)) (lacking (place_of estate machine home home true)))
    (at (other home) false)
    (own_or machine (lacking (place_of estate machine home (other home) true)) (lacking (place_of estate machine home home true)) (at (other home) true) (at home true))
  where
    at : (side : Side) (bubble : Bool) → Own machine (lacking (place_of estate machine home side bubble))
    at side bubble =
        let network = network_at estate machine home side in
        own_placed machine side network (folder_at estate machine home side) (pool_at estate machine home side) (network_in estate side bubble network)

-- what a machine lacks is told with that machine
pub machine_of : (estate : Estate) (machine : ℕ) (home : Side) (unmapped : Unmapped) → missing estate machine home ≡ Some unmapped → unmapped.machine ≡ machine
machine_of estate machine home unmapped is = ap (machine_or machine) (sym is) ∙ own_missing estate machine home

module _ (estate : Estate) (members : Members) where
  -- where no machine of a group lacks a map, each has its places
  pub all_placed : ((group : ℕ) (unmapped : Unmapped) → Lacks estate members group unmapped → ⊥) → AreAllPlaced estate members
  all_placed none group machine row held = go (missing estate machine row.protects) refl
    where
      go : (o : Option Unmapped) → missing estate machine row.protects ≡ o → missing estate machine row.protects ≡ None
      go None is = is
      go (Some u) is =
          let own : u.machine ≡ machine = machine_of estate machine row.protects u is in
          absurd (none group u (record { row = row; held = subst (λ m. IsHeldBy estate members group m row) (sym own) held; told = ap (λ m. missing estate m row.protects) own ∙ is }))

  -- a machine of a list that is the group's
  module _ (group : ℕ) (row : GroupRow) (list : List ℕ) (found : slice_get estate.groups group ≡ Some row) (listed : slice_get members.machines group ≡ Some list) where
    same_row : (u : Unmapped) (lacks : Lacks estate members group u) → lacks.row ≡ row
    same_row u lacks = found_same (slice_get estate.groups group) lacks.row row lacks.held.found found

    told_here : (u : Unmapped) → Lacks estate members group u → missing estate u.machine row.protects ≡ Some u
    told_here u lacks = ap (λ (r : GroupRow). missing estate u.machine r.protects) (sym (same_row u lacks)) ∙ lacks.told

    held_here : (u : Unmapped) → Lacks estate members group u → Contains list u.machine
    held_here u lacks = subst (λ l. Contains l u.machine) (found_same (slice_get members.machines group) lacks.held.list list lacks.held.listed listed) lacks.held.held

    pub of_group : (o : Option Unmapped) → IsFirstOfList estate row.protects list o → IsFirstOfGroup estate members group o
    of_group None first = λ u lacks. (let none = first u.machine (held_here u lacks) in let some = told_here u lacks in cc (none, some))
    of_group (Some u) first = (
      record { row = row; held = record { found = found; list = list; listed = listed; held = first.0 }; told = first.1 },
      λ v lacks. elim (cases_lt v.machine u.machine) [
        | inl less ↦ (let none = first.2 v.machine (held_here v lacks) less in let some = told_here v lacks in cc (none, some))
        | inr from ↦ from
      ],
    )

  -- one group more
  module _ (count : ℕ) where
    none_more : NoneBelow estate members count → IsFirstOfGroup estate members count None → NoneBelow estate members (count + 1)
    none_more none here group u below lacks = elim (cases_eq group count) [
      | inl e ↦ here u (subst (λ g. Lacks estate members g u) e lacks)
      | inr n ↦ none group u (omega (arith, below, n)) lacks
    ]

    -- the first of the groups before stays the first
    kept_more : (a : Unmapped) → IsFirstBelow estate members count a → ((v : Unmapped) → Lacks estate members count v → a.machine ≤ v.machine) → IsFirstBelow estate members (count + 1) a
    kept_more a first more = record {
      group = first.group;
      below = omega (arith, first.below);
      lacks = first.lacks;
      least_machine = λ g v below lacks. elim (cases_eq g count) [
        | inl e ↦ more v (subst (λ n. Lacks estate members n v) e lacks)
        | inr n ↦ first.least_machine g v (omega (arith, below, n)) lacks
      ];
      least_group = λ g v below lacks same. elim (cases_eq g count) [
        | inl e ↦ omega (arith, first.below, e)
        | inr n ↦ first.least_group g v (omega (arith, below, n)) lacks same
      ];
    }

    -- the first of this group is the first, where those before have only greater machines
    new_more : (b : Unmapped) → Lacks estate members count b → ((v : Unmapped) → Lacks estate members count v → b.machine ≤ v.machine) → ((g : ℕ) (v : Unmapped) → g < count → Lacks estate members g v → b.machine < v.machine) → IsFirstBelow estate members (count + 1) b
    new_more b lacks least greater = record {
      group = count;
      below = omega arith;
      lacks = lacks;
      least_machine = λ g v below lacking. elim (cases_eq g count) [
        | inl e ↦ least v (subst (λ n. Lacks estate members n v) e lacking)
        | inr n ↦ omega (arith, greater g v (omega (arith, below, n)) lacking)
      ];
      least_group = λ g v below lacking same. elim (cases_eq g count) [
        | inl e ↦ omega (arith, e)
        | inr n ↦ absurd (omega (arith, greater g v (omega (arith, below, n)) lacking, same))
      ];
    }

    both_more : (a b : Unmapped) → IsFirstBelow estate members count a → IsFirstOfGroup estate members count (Some b) → FirstBelow estate members (count + 1) (if nat_lt b.machine a.machine then Some b else Some a)
    both_more a b first here = elim (cases_lt b.machine a.machine) [
      | inl less ↦ rw (lt-ltb b.machine a.machine less) (new_more b here.0 here.1 (λ g v below lacks. omega (arith, less, first.least_machine g v below lacks)))
      | inr from ↦ rw (le-ltb b.machine a.machine from) (kept_more a first (λ v lacks. omega (arith, from, here.1 v lacks)))
    ]

    pub first_more : (a b : Option Unmapped) → FirstBelow estate members count a → IsFirstOfGroup estate members count b → FirstBelow estate members (count + 1) (lesser a b)
    first_more None None first here = none_more first here
    first_more None (Some b) first here = new_more b here.0 here.1 (λ g v below lacks. absurd (first g v below lacks))
    first_more (Some a) None first here = kept_more a first (λ v lacks. absurd (here v lacks))
    first_more (Some a) (Some b) first here = both_more a b first here

-- the first machine of an ascending list that lacks a map, found after those before it
pub first_at : (estate : Estate) (home : Side) (list : List ℕ) (i : ℕ) (o : Option Unmapped) → IsStrictlyIncreasing list → i < length list → ((k : ℕ) → k < i → missing estate (get_or list k 0) home ≡ None)
    → o ≡ missing estate (get_or list i 0) home → is_some o ≡ true → IsFirstOfList estate home list o
first_at estate home list i None ascending below before is some = cc some
first_at estate home list i (Some u) ascending below before is some =
    let own : u.machine ≡ get_or list i 0 = machine_of estate (get_or list i 0) home u (sym is) in
    ((i, below, get_or_default list i u.machine 0 below ∙ sym own), ap (λ m. missing estate m home) own ∙ sym is, earlier own)
  where
    earlier : u.machine ≡ get_or list i 0 → (machine : ℕ) → Contains list machine → machine < u.machine → missing estate machine home ≡ None
    earlier own machine has less =
        let at : get_or list has.0 0 ≡ machine = get_or_default list has.0 0 machine has.1 ∙ has.2 in
        elim (cases_lt has.0 i) [
          | inl lower ↦ subst (λ m. missing estate m home ≡ None) at (before has.0 lower)
          | inr from ↦ elim (cases_eq has.0 i) [
            | inl e ↦ absurd (omega (arith, less, own, at, ap (λ k. get_or list k 0) e))
            | inr n ↦ absurd (omega (arith, less, own, at, AllPairs-from_increasing list ascending i has.0 0 (omega (arith, from, n)) has.1))
          ]
        ]

-- no machine of a list lacks a map
pub none_of : (estate : Estate) (home : Side) (list : List ℕ) (i : ℕ) → length list ≤ i → ((k : ℕ) → k < i → missing estate (get_or list k 0) home ≡ None) → IsFirstOfList estate home list None
none_of estate home list i all none = λ machine has. subst (λ m. missing estate m home ≡ None) (get_or_default list has.0 0 machine has.1 ∙ has.2) (none has.0 (omega (arith, has.1, all)))

-- the machines of a group are the estate's
pub members_within : (estate : Estate) (members : Members) (group : ℕ) (list : List ℕ) → AreMembersOf estate members → slice_get members.machines group ≡ Some list → AllBelow (length estate.machines) list
members_within estate members group list are found k d below =
    let machine : IsMachineOf estate group (get_or list k d) = ((are.machines.each group list found).exactly (get_or list k d)).0 (Contains-get_or list k d below) in
    slice_get_within estate.machines (get_or list k d) machine.row machine.found

-- the whole
pub first_of_all : (estate : Estate) (members : Members) (unmapped : Unmapped) → FirstBelow estate members (length estate.groups) (Some unmapped) → IsFirstUnmapped estate members unmapped
first_of_all estate members unmapped first = record {
  group = first.group;
  lacks = first.lacks;
  least_machine = λ g v lacks. first.least_machine g v (slice_get_within estate.groups g lacks.row lacks.held.found) lacks;
  least_group = λ g v lacks. first.least_group g v (slice_get_within estate.groups g lacks.row lacks.held.found) lacks;
}

pub none_at_all : (estate : Estate) (members : Members) → FirstBelow estate members (length estate.groups) None → AreAllPlaced estate members
none_at_all estate members none = all_placed estate members (λ g v lacks. none g v (slice_get_within estate.groups g lacks.row lacks.held.found) lacks)

-- the list of a group that was read
pub list_read : (lists slices : List (List ℕ)) (group : ℕ) (list slice : List ℕ) → slices ≡ lists → group < length lists → list ≡ get_or slices group list → slice ≡ list → slice_get lists group ≡ Some slice
list_read lists slices group list slice same below is seen =
    slice_get-get_or lists group list below ∙ ap (λ (ls : List (List ℕ)). Some (get_or ls group list)) (sym same) ∙ ap Some (sym is ∙ sym seen)

-- the row of a group that was read
pub row_read : (rows slices : List GroupRow) (group : ℕ) (row : GroupRow) → slices ≡ rows → group < length rows → row ≡ get_or slices group row → slice_get rows group ≡ Some row
row_read rows slices group row same below is = slice_get-get_or rows group row below ∙ ap (λ (rs : List GroupRow). Some (get_or rs group row)) (sym same) ∙ ap Some (sym is)

-- after all groups
pub whole : (estate : Estate) (members : Members) (count : ℕ) (o : Option Unmapped) → count ≡ length estate.groups → FirstBelow estate members count o → (IsNone o → AreAllPlaced estate members) × IfSome o (IsFirstUnmapped estate members)
whole estate members count None all first = (λ none. none_at_all estate members (subst (NoneBelow estate members) all first), tt)
whole estate members count (Some u) all first = (λ none. cc none, first_of_all estate members u (subst (λ n. IsFirstBelow estate members n u) all first))
