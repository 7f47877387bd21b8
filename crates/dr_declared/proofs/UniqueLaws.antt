-- What bytes declare is one: a whole, or the first of all that is wrong with them.
use Rattle.std.proofs.Common.{◌≡◌, ◌∙◌, ℕ, zero, suc, ◌<◌, List, [], ◌∷◌, length, Some, slice_get, inl, inr, refl, sym, ap, subst, arith}
use Rattle.std.specs.Prelude.{Result, Ok, Err}
use Rattle.std.proofs.lemmas.Bool.{cases_lt}
use Rattle.std.proofs.lemmas.List.Elements.{All-contains}
use Rattle.std.proofs.lemmas.Option.{slice_get_within, same_Some}
use Rattle.dr_base.specs.declared.group_fault.GroupFault.TheVariants.{NotClosed, InTwo, NoMemory as NoMemoryForGroups}
use Rattle.dr_base.specs.declared.plan_fault.PlanFault.{PlanFault}
use Rattle.dr_base.specs.declared.plan_fault.PlanFault.TheVariants.{UnknownGroup, GroupTwice, UnknownMachine, BadPriority, OtherPriority, Cycle, BadPosition, NoMemory as NoMemoryForPlan}
use Rattle.dr_base.specs.declared.placement.Unmapped.{Unmapped}
use Rattle.dr_inventory.specs.declared.estate.GroupRow.{GroupRow}
use Rattle.dr_inventory.specs.declared.estate.PlanRow.{PlanRow}
use Rattle.dr_inventory.specs.declared.estate.Estate.{Estate}
use Rattle.dr_inventory.specs.Estates.{IsEstateText}
use Rattle.dr_inventory.specs.Sound.{IsSoundEstate}
use Rattle.dr_inventory.specs.declared.members.Members.{Members}
use Rattle.dr_inventory.proofs.OneText.{one_estate}
use Rattle.dr_inventory.proofs.SoundLaws.{sound}
use Rattle.dr_groups.specs.Groups.{AreMembersOf}
use Rattle.dr_groups.proofs.RowLaws.{found_same}
use Rattle.dr_groups.proofs.FaultLaws.{is_no_fault}
use Rattle.dr_groups.proofs.UniqueLaws.{one_by_place, one_members, one_group_fault, split_within, shared_within}
use Rattle.dr_plan.specs.Faults.{IsValid}
use Rattle.dr_plan.specs.Plans.{IsPlanOf}
use Rattle.dr_plan.proofs.FaultLaws.{valid_has_none, one_fault as one_plan_fault}
use Rattle.dr_plan.proofs.UniqueLaws.{one_plan, plan_fault_within}
use Rattle.dr_declared.specs.declared.contents.Declared.{Declared}
use Rattle.dr_declared.specs.declared.contents.ProtectionFault.{ProtectionFault}
use Rattle.dr_declared.specs.declared.contents.ProtectionFault.TheVariants.{Groups as OfGroups, Plan as OfPlan, Unmapped as OfMaps}
use Rattle.dr_declared.specs.declared.contents.DeclaredFault.{DeclaredFault}
use Rattle.dr_declared.specs.declared.contents.DeclaredFault.TheVariants.{Estate as OfEstate, Protection as OfProtection, NoMemory}
use Rattle.dr_declared.specs.Contents.{ArePlansOf, Declares}
use Rattle.dr_declared.specs.Missing.{missing, Lacks, IsFirstUnmapped}
use Rattle.dr_declared.specs.Faults.{IsFaultyPlan, IsFirstOfPlans, IsProtectionFaultOf, IsFirstFaultOf, IsReading, HoldsNumbers}
use Rattle.dr_declared.proofs.MissingLaws.{members_within}
use Rattle.dr_declared.proofs.TextLaws.{one_text_fault, no_text_fault}

-- an estate's text gives a sound estate
pub text_sound : (bytes : List ℕ) (e : Estate) → IsEstateText bytes e → IsSoundEstate e
text_sound bytes e text = sound text.table e text.value

-- what bytes declare is one
pub one_declared : (bytes : List ℕ) (c d : Declared) → Declares bytes c → Declares bytes d → c ≡ d
one_declared bytes c d a b =
    let estate : c.estate ≡ d.estate = one_estate bytes c.estate d.estate a.text b.text in
    let members : c.members ≡ d.members = one_members d.estate c.members d.members (subst (λ e. AreMembersOf e c.members) estate a.members) b.members in
    let moved : ArePlansOf d.estate d.members c.plans = subst (λ (m : Members). ArePlansOf d.estate m c.plans) members (subst (λ e. ArePlansOf e c.members c.plans) estate a.plans) in
    let plans : c.plans ≡ d.plans = one_by_place c.plans d.plans (moved.one_each ∙ sym b.plans.one_each) (λ k p q at at'. one_plan d.estate d.members k p q (moved.each k p at) (b.plans.each k q at')) in
    λ i. record { estate = estate i; members = members i; plans = plans i }

-- the first fault of plans is one
one_of_plans : (e : Estate) (m : Members) (n n' : List ℕ) (x y : PlanFault) → IsFirstOfPlans e m n x → IsFirstOfPlans e m n' y → OfPlan n x ≡ OfPlan n' y
one_of_plans e m n n' x y a b =
    let numbers : a.number ≡ b.number = elim (cases_lt a.number b.number) [
      | inl lower ↦ absurd (valid_has_none e m a.number x (b.before a.number lower) a.faulty.is_first)
      | inr from ↦ elim (cases_lt b.number a.number) [
        | inl lower ↦ absurd (valid_has_none e m b.number y (a.before b.number lower) b.faulty.is_first)
        | inr to ↦ omega (arith, from, to)
      ]
    ] in
    let Faulty : ℕ → Type 0 = λ k. IsFaultyPlan e m k n x in
    let faulty : IsFaultyPlan e m b.number n x = subst Faulty numbers a.faulty in
    let rows : faulty.row ≡ b.faulty.row = found_same (slice_get e.plans b.number) faulty.row b.faulty.row faulty.found b.faulty.found in
    let names : n ≡ n' = faulty.named ∙ ap (λ (r : PlanRow). r.name) rows ∙ sym b.faulty.named in
    let faults : x ≡ y = one_plan_fault e m b.number x y faulty.is_first b.faulty.is_first in
    ap (λ k. OfPlan k x) names ∙ ap (OfPlan n') faults

-- the first missing map is one
one_of_maps : (e : Estate) (m : Members) (u v : Unmapped) → IsFirstUnmapped e m u → IsFirstUnmapped e m v → u ≡ v
one_of_maps e m u v a b =
    let machines : u.machine ≡ v.machine = omega (arith, a.least_machine b.group v b.lacks, b.least_machine a.group u a.lacks) in
    let groups : a.group ≡ b.group = omega (arith, a.least_group b.group v b.lacks (sym machines), b.least_group a.group u a.lacks machines) in
    let Lacking : ℕ → Type 0 = λ g. Lacks e m g u in
    let lacks : Lacks e m b.group u = subst Lacking groups a.lacks in
    let rows : lacks.row ≡ b.lacks.row = found_same (slice_get e.groups b.group) lacks.row b.lacks.row lacks.held.found b.lacks.held.found in
    same_Some u v (sym lacks.told ∙ ap (λ k. missing e k lacks.row.protects) machines ∙ ap (λ (r : GroupRow). missing e v.machine r.protects) rows ∙ b.lacks.told)

-- where all plans are valid, none is faulty
none_faulty : (e : Estate) (m : Members) (n : List ℕ) (x : PlanFault) → ((number : ℕ) → number < length e.plans → IsValid e m number) → IsFirstOfPlans e m n x → ⊥
none_faulty e m n x valid first = valid_has_none e m first.number x (valid first.number (slice_get_within e.plans first.number first.faulty.row first.faulty.found)) first.faulty.is_first

of_plans_at : (e : Estate) (m m' : Members) (n : List ℕ) (x : PlanFault) → m ≡ m' → IsFirstOfPlans e m n x → IsFirstOfPlans e m' n x
of_plans_at e m m' n x same first = subst (λ (k : Members). IsFirstOfPlans e k n x) same first

of_maps_at : (e : Estate) (m m' : Members) (u : Unmapped) → m ≡ m' → IsFirstUnmapped e m u → IsFirstUnmapped e m' u
of_maps_at e m m' u same first = subst (λ (k : Members). IsFirstUnmapped e k u) same first

-- the first of all that is wrong with the protection of an estate is one
one_protection_fault : (e : Estate) (f g : ProtectionFault) → IsProtectionFaultOf e f → IsProtectionFaultOf e g → f ≡ g
one_protection_fault e (OfGroups x) (OfGroups y) a b = ap OfGroups (one_group_fault e x y a.is_first b.is_first a.is_fault b.is_fault)
one_protection_fault e (OfGroups x) (OfPlan k y) a b = absurd (is_no_fault e x a.is_first b.passes a.is_fault)
one_protection_fault e (OfGroups x) (OfMaps v) a b = absurd (is_no_fault e x a.is_first b.passes a.is_fault)
one_protection_fault e (OfPlan n x) (OfGroups y) a b = absurd (is_no_fault e y b.is_first a.passes b.is_fault)
one_protection_fault e (OfPlan n x) (OfPlan k y) a b =
    one_of_plans e b.members n k x y (of_plans_at e a.members b.members n x (one_members e a.members b.members a.are_members b.are_members) a.is_first) b.is_first
one_protection_fault e (OfPlan n x) (OfMaps v) a b =
    absurd (none_faulty e b.members n x b.is_first.valid (of_plans_at e a.members b.members n x (one_members e a.members b.members a.are_members b.are_members) a.is_first))
one_protection_fault e (OfMaps u) (OfGroups y) a b = absurd (is_no_fault e y b.is_first a.passes b.is_fault)
one_protection_fault e (OfMaps u) (OfPlan k y) a b =
    absurd (none_faulty e a.members k y a.is_first.valid (of_plans_at e b.members a.members k y (one_members e b.members a.members b.are_members a.are_members) b.is_first))
one_protection_fault e (OfMaps u) (OfMaps v) a b =
    ap OfMaps (one_of_maps e b.members u v (of_maps_at e a.members b.members u (one_members e a.members b.members a.are_members b.are_members) a.is_first.is_first) b.is_first.is_first)

-- what stands at a place within a list
pub found_within : {X : Type 0} (xs : List X) (k : ℕ) → k < length xs → (x : X) × (slice_get xs k ≡ Some x)
found_within [] k below = absurd (omega (arith, below))
found_within (x ∷ xs) zero below = (x, refl)
found_within (x ∷ xs) (suc k) below = found_within xs k (omega (arith, below))

-- the plans that bytes declare are valid
plans_valid : (bytes : List ℕ) (d : Declared) → Declares bytes d → (number : ℕ) → number < length d.estate.plans → IsValid d.estate d.members number
plans_valid bytes d is number below =
    let at = found_within d.plans number (omega (arith, below, is.plans.one_each)) in
    let plan : IsPlanOf d.estate d.members number at.0 = is.plans.each number at.0 at.1 in
    record { row = plan.row; found = plan.found; row_valid = plan.row_valid }

-- nothing is wrong with the protection of an estate that bytes declare
no_protection_fault : (bytes : List ℕ) (d : Declared) (f : ProtectionFault) → Declares bytes d → IsProtectionFaultOf d.estate f → ⊥
no_protection_fault bytes d (OfGroups x) is h = is_no_fault d.estate x h.is_first is.passes h.is_fault
no_protection_fault bytes d (OfPlan n x) is h =
    none_faulty d.estate d.members n x (plans_valid bytes d is) (of_plans_at d.estate h.members d.members n x (one_members d.estate h.members d.members h.are_members is.members) h.is_first)
no_protection_fault bytes d (OfMaps u) is h =
    let first = of_maps_at d.estate h.members d.members u (one_members d.estate h.members d.members h.are_members is.members) h.is_first.is_first in
    let none = is.placed first.group u.machine first.lacks.row first.lacks.held in
    let some = first.lacks.told in
    cc (none, some)

-- bytes that declare something have no fault
no_fault : (bytes : List ℕ) (d : Declared) (f : DeclaredFault) → Declares bytes d → IsFirstFaultOf bytes f → ⊥
no_fault bytes d (OfEstate f) is h = no_text_fault bytes d.estate f is.text h.0
no_fault bytes d (OfProtection e f) is h = no_protection_fault bytes d f is (subst (λ x. IsProtectionFaultOf x f) (one_estate bytes e d.estate h.0 is.text) h.1)
no_fault bytes d NoMemory is h = h

-- the first fault of bytes is one
one_fault : (bytes : List ℕ) (f g : DeclaredFault) → IsFirstFaultOf bytes f → IsFirstFaultOf bytes g → f ≡ g
one_fault bytes (OfEstate f) (OfEstate g) a b = ap OfEstate (one_text_fault bytes f g a.0 b.0)
one_fault bytes (OfEstate f) (OfProtection e g) a b = absurd (no_text_fault bytes e f b.0 a.0)
one_fault bytes (OfProtection e f) (OfEstate g) a b = absurd (no_text_fault bytes e g a.0 b.0)
one_fault bytes (OfProtection d f) (OfProtection e g) a b =
    let same : d ≡ e = one_estate bytes d e a.0 b.0 in
    ap (λ x. OfProtection x f) same ∙ ap (OfProtection e) (one_protection_fault e f g (subst (λ x. IsProtectionFaultOf x f) same a.1) b.1)
one_fault bytes NoMemory g a b = absurd a
one_fault bytes f NoMemory a b = absurd b

-- a reading of bytes is one: what they declare, or their first fault
pub one_reading : (bytes : List ℕ) (r s : Result Declared DeclaredFault) → IsReading bytes r → IsReading bytes s → r ≡ s
one_reading bytes (Ok c) (Ok d) a b = ap (λ x. Ok x) (one_declared bytes c d a b)
one_reading bytes (Ok c) (Err g) a b = absurd (no_fault bytes c g a b)
one_reading bytes (Err f) (Ok d) a b = absurd (no_fault bytes d f b a)
one_reading bytes (Err f) (Err g) a b = ap (λ x. Err x) (one_fault bytes f g a b)

-- the numbers that the first fault tells are the estate's
pub fault_numbers : (e : Estate) (f : ProtectionFault) → IsSoundEstate e → IsProtectionFaultOf e f → HoldsNumbers e f
fault_numbers e (OfGroups (NotClosed g i o)) sound h = split_within e g i o sound h.is_first
fault_numbers e (OfGroups (InTwo d g k)) sound h = shared_within e d g k sound h.is_first
fault_numbers e (OfGroups NoMemoryForGroups) sound h = tt
fault_numbers e (OfPlan n (UnknownGroup k)) sound h = tt
fault_numbers e (OfPlan n (GroupTwice k)) sound h = tt
fault_numbers e (OfPlan n (UnknownMachine k)) sound h = tt
fault_numbers e (OfPlan n (BadPriority m k)) sound h = plan_fault_within e h.members h.is_first.number (BadPriority m k) h.is_first.faulty.is_first
fault_numbers e (OfPlan n (OtherPriority m d)) sound h = plan_fault_within e h.members h.is_first.number (OtherPriority m d) h.is_first.faulty.is_first
fault_numbers e (OfPlan n (Cycle ms)) sound h = plan_fault_within e h.members h.is_first.number (Cycle ms) h.is_first.faulty.is_first
fault_numbers e (OfPlan n (BadPosition k z)) sound h = tt
fault_numbers e (OfPlan n NoMemoryForPlan) sound h = tt
fault_numbers e (OfMaps u) sound h =
    let first = h.is_first.is_first in
    let held = first.lacks.held in
    All-contains (λ m. m < length e.machines) held.list u.machine (members_within e h.members first.group held.list h.are_members held.listed) held.held
