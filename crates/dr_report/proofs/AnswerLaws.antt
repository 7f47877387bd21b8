-- Answers are told apart by their lines.
use Rattle.std.proofs.Common.{◌≡◌, ℕ, List, [], ◌∷◌, take, get_or, ap, sym, ◌∙◌, refl, Option, Some, None}
use Rattle.std.specs.Prelude.{codes, ◌==◌, if◌then◌else◌, IfSome, bytes_eq}
use Rattle.std.specs.List.{IsDistinct}
use Rattle.dr_base.specs.declared.answer.Answer.{Answer}
use Rattle.dr_base.specs.declared.answer.Answer.TheVariants as answers
use Rattle.dr_base.specs.declared.answer.Long.{Long}
use Rattle.dr_base.specs.declared.answer.Long.TheVariants.{Line, Session}
use Rattle.dr_base.specs.declared.answer.Thing.{Thing}
use Rattle.dr_base.specs.declared.answer.Thing.TheVariants as things
use Rattle.dr_base.specs.declared.placement.Kind.{Kind}
use Rattle.dr_base.specs.declared.placement.Unmapped.{Unmapped}
use Rattle.dr_base.specs.declared.side.Side.{Side}
use Rattle.dr_base.specs.declared.estate_fault.EstateFault.{EstateFault}
use Rattle.dr_base.specs.declared.estate_fault.EstateFault.TheVariants as estate_faults
use Rattle.dr_base.specs.declared.group_fault.GroupFault.{GroupFault}
use Rattle.dr_base.specs.declared.group_fault.GroupFault.TheVariants as group_faults
use Rattle.dr_base.specs.declared.plan_fault.PlanFault.{PlanFault}
use Rattle.dr_base.specs.declared.plan_fault.PlanFault.TheVariants as plan_faults
use Rattle.dr_base.specs.declared.refusal.Refusal.{Refusal}
use Rattle.dr_base.specs.declared.refusal.Refusal.TheVariants as refusals
use Rattle.dr_base.specs.declared.request_fault.RequestFault.{RequestFault}
use Rattle.dr_base.specs.declared.request_fault.RequestFault.TheVariants as request_faults
use Rattle.dr_inventory.specs.declared.estate.Estate.{Estate}
use Rattle.dr_inventory.specs.Sound.{IsSoundEstate}
use Rattle.dr_report.specs.Texts.{answer_text_of, estate_fault_text, group_fault_text, plan_fault_text, refusal_text, request_fault_text, machine_names, pair_names, datastore_names, group_names, plan_names}
use Rattle.dr_report.specs.Conditions.{HoldsNumbersOf}
use Rattle.dr_report.specs.Values.{HasNames, IsToldAnswer, IsEstateFault, IsPlanFault}
use Rattle.dr_report.proofs.WordLaws.{differ}
use Rattle.dr_report.proofs.FieldLaws.{Naming, one, three, number, wide, numbered, fixed, side, kind, join_two, join_three, other}
use Rattle.dr_report.proofs.EstateFaultLaws.{same_estate_fault}
use Rattle.dr_report.proofs.GroupFaultLaws.{same_group_fault}
use Rattle.dr_report.proofs.PlanFaultLaws.{same_plan_fault}
use Rattle.dr_report.proofs.RefusalLaws.{same_refusal}

-- the bytes of a line by which the kinds of answers are told apart
abbrev pub key : List ℕ → List ℕ
key line = if get_or line 0 0 == 48 then 48 ∷ get_or line 7 0 ∷ [] else take 3 line

-- these bytes of an answer's line
abbrev pub key_of : Answer → List ℕ
key_of (answers.Done n) = codes "0r"
key_of answers.Loaded = codes "0e"
key_of answers.Replied = codes "0a"
key_of answers.Shown = 48 ∷ 0 ∷ []
key_of (answers.BadWords n) = codes "1 b"
key_of (answers.Estate f) = codes "2 E"
key_of (answers.Groups f) = codes "2 G"
key_of (answers.Plan n f) = codes "2 P"
key_of (answers.Unmapped u) = codes "2 u"
key_of (answers.Refused f) = codes "2 N"
key_of (answers.Request f) = codes "2 H"
key_of (answers.TooLong l) = codes "2 t"
key_of (answers.Waiting r s) = codes "3 w"
key_of (answers.Incomplete r s) = codes "4 i"
key_of (answers.ArrayFault s) = codes "5 a"
key_of (answers.PortFault n) = codes "6 p"
key_of (answers.CalloutFault n) = codes "7 c"
key_of answers.JournalFault = codes "8 j"
key_of answers.ReadFault = codes "9 r"
key_of answers.WriteFault = codes "10 "
key_of answers.NoMemory = codes "11 "
key_of (answers.JournalDamaged n) = codes "12 "
key_of (answers.Foreign t m n) = codes "13 "

estate_key : (f : EstateFault) → IsEstateFault f → key (estate_fault_text f) ≡ codes "2 E"
estate_key estate_faults.NotToml p = refl
estate_key (estate_faults.Key x) p = refl
estate_key (estate_faults.BadName x) p = refl
estate_key (estate_faults.Twice x) p = refl
estate_key (estate_faults.Unknown x) p = refl
estate_key (estate_faults.DeviceTwice x) p = refl
estate_key (estate_faults.Limit k n) p = refl
estate_key estate_faults.NoMemory p = absurd p

group_key : (estate : Option Estate) (f : GroupFault) → IsToldAnswer (answers.Groups f) → key (group_fault_text estate f) ≡ codes "2 G"
group_key estate (group_faults.NotClosed a b c) p = refl
group_key estate (group_faults.InTwo a b c) p = refl
group_key estate group_faults.NoMemory p = absurd p

plan_key : (estate : Option Estate) (n : List ℕ) (f : PlanFault) → IsPlanFault f → key (plan_fault_text estate n f) ≡ codes "2 P"
plan_key estate n (plan_faults.UnknownGroup x) p = refl
plan_key estate n (plan_faults.GroupTwice x) p = refl
plan_key estate n (plan_faults.UnknownMachine x) p = refl
plan_key estate n (plan_faults.BadPriority x z) p = refl
plan_key estate n (plan_faults.OtherPriority x y) p = refl
plan_key estate n (plan_faults.Cycle xs) p = refl
plan_key estate n (plan_faults.BadPosition x z) p = refl
plan_key estate n plan_faults.NoMemory p = absurd p

refusal_key : (estate : Option Estate) (f : Refusal) → key (refusal_text estate f) ≡ codes "2 N"
refusal_key estate refusals.NoEstate = refl
refusal_key estate (refusals.UnknownPlan n) = refl
refusal_key estate (refusals.NotBuilt n) = refl
refusal_key estate (refusals.UnknownRun n) = refl
refusal_key estate (refusals.IdTaken n) = refl
refusal_key estate (refusals.TakenOver r s) = refl
refusal_key estate (refusals.GroupsInUse n) = refl
refusal_key estate (refusals.WrongState g s) = refl
refusal_key estate (refusals.NotWaiting r s) = refl
refusal_key estate (refusals.NotWalked r s) = refl
refusal_key estate refusals.EstateStands = refl
refusal_key estate (refusals.NotAmended k n) = refl
refusal_key estate (refusals.NoSlot k m n) = refl
refusal_key estate (refusals.JournalFull m n) = refl

request_key : (f : RequestFault) → IsToldAnswer (answers.Request f) → key (request_fault_text f) ≡ codes "2 H"
request_key request_faults.H1 p = refl
request_key request_faults.H2 p = refl
request_key request_faults.H3 p = refl
request_key (request_faults.H4 m) p = absurd p
request_key request_faults.H5 p = refl
request_key request_faults.ReadFault p = absurd p
request_key request_faults.NoMemory p = absurd p

-- an answer's line has the bytes of its kind
pub key_told : (estate : Option Estate) (a : Answer) → IsToldAnswer a → key (answer_text_of estate a) ≡ key_of a
key_told estate (answers.Estate f) p = estate_key f p
key_told estate (answers.Groups f) p = group_key estate f p
key_told estate (answers.Plan n f) p = plan_key estate n f p.1
key_told estate (answers.Refused f) p = refusal_key estate f
key_told estate (answers.Request f) p = request_key f p
key_told estate (answers.TooLong Line) p = refl
key_told estate (answers.TooLong Session) p = refl
key_told estate (answers.Foreign (things.Pair x) m n) p = refl
key_told estate (answers.Foreign (things.Machine x) m n) p = refl
key_told estate a p = refl

-- two refused requests with one line are equal
same_request : (f g : RequestFault) → IsToldAnswer (answers.Request f) → IsToldAnswer (answers.Request g) → request_fault_text f ≡ request_fault_text g → f ≡ g
same_request request_faults.H1 request_faults.H1 p q e = refl
same_request request_faults.H1 g p q e = absurd (other (codes "2 H1") (request_fault_text request_faults.H1) (request_fault_text g) refl refl e)
same_request request_faults.H2 request_faults.H2 p q e = refl
same_request request_faults.H2 g p q e = absurd (other (codes "2 H2") (request_fault_text request_faults.H2) (request_fault_text g) refl refl e)
same_request request_faults.H3 request_faults.H3 p q e = refl
same_request request_faults.H3 g p q e = absurd (other (codes "2 H3") (request_fault_text request_faults.H3) (request_fault_text g) refl refl e)
same_request request_faults.H5 request_faults.H5 p q e = refl
same_request request_faults.H5 g p q e = absurd (other (codes "2 H5") (request_fault_text request_faults.H5) (request_fault_text g) refl refl e)
same_request (request_faults.H4 m) g p q e = absurd p
same_request request_faults.ReadFault g p q e = absurd p
same_request request_faults.NoMemory g p q e = absurd p

same_long : (estate : Option Estate) (l m : Long) → answer_text_of estate (answers.TooLong l) ≡ answer_text_of estate (answers.TooLong m) → l ≡ m
same_long estate Line Line e = refl
same_long estate Session Session e = refl
same_long estate l m e = absurd (differ (answer_text_of estate (answers.TooLong l)) (answer_text_of estate (answers.TooLong m)) refl e)

none_distinct : IsDistinct bytes_eq []
unfolding IsDistinct
none_distinct = tt

-- the names of an estate
record Namings (estate : Option Estate) : Type 0 where
  machines : Naming (machine_names estate)
  pairs : Naming (pair_names estate)
  datastores : Naming (datastore_names estate)
  groups : Naming (group_names estate)
  plans : Naming (plan_names estate)

-- two objects with their codes, which are told alike, are equal
same_foreign : (estate : Option Estate) → Namings estate → (x y : Thing) (m n v w : ℕ) → HoldsNumbersOf estate (answers.Foreign x m n) → HoldsNumbersOf estate (answers.Foreign y v w) → IsToldAnswer (answers.Foreign x m n) → IsToldAnswer (answers.Foreign y v w) → answer_text_of estate (answers.Foreign x m n) ≡ answer_text_of estate (answers.Foreign y v w) → answers.Foreign x m n ≡ answers.Foreign y v w
same_foreign estate names (things.Pair x) (things.Pair y) m n v w h k p q e =
    let s = three (codes "13 foreign pair") (numbered (pair_names estate) names.pairs x y h k) (number m v p.0 q.0) (number n w p.1 q.1) e in
    join_three (λ a b c. answers.Foreign (things.Pair a) b c) s.0 s.1 s.2
same_foreign estate names (things.Machine x) (things.Machine y) m n v w h k p q e =
    let s = three (codes "13 foreign machine") (numbered (machine_names estate) names.machines x y h k) (number m v p.0 q.0) (number n w p.1 q.1) e in
    join_three (λ a b c. answers.Foreign (things.Machine a) b c) s.0 s.1 s.2
same_foreign estate names (things.Pair x) y m n v w h k p q e = absurd (other (codes "13 foreign p") (answer_text_of estate (answers.Foreign (things.Pair x) m n)) (answer_text_of estate (answers.Foreign y v w)) refl refl e)
same_foreign estate names (things.Machine x) y m n v w h k p q e = absurd (other (codes "13 foreign m") (answer_text_of estate (answers.Foreign (things.Machine x) m n)) (answer_text_of estate (answers.Foreign y v w)) refl refl e)

same_unmapped : (estate : Option Estate) → Namings estate → (u v : Unmapped) → HoldsNumbersOf estate (answers.Unmapped u) → HoldsNumbersOf estate (answers.Unmapped v) → answer_text_of estate (answers.Unmapped u) ≡ answer_text_of estate (answers.Unmapped v) → u ≡ v
same_unmapped estate names u v h k e =
    let s = three (codes "2 unmapped") (numbered (machine_names estate) names.machines u.machine v.machine h k) (kind u.kind v.kind) (side u.side v.side) e in
    let make : ℕ → Kind → Side → Unmapped = λ a b c. record { machine = a; kind = b; side = c } in
    join_three make s.0 s.1 s.2

-- two answers of one kind with one line are equal
same_answer : (estate : Option Estate) → Namings estate → (a b : Answer) → HoldsNumbersOf estate a → HoldsNumbersOf estate b → IsToldAnswer a → IsToldAnswer b → key_of a ≡ key_of b → answer_text_of estate a ≡ answer_text_of estate b → a ≡ b
same_answer estate names (answers.Done n) (answers.Done n') h k p q same e = ap answers.Done (one (codes "0 done run") (number n n' p q) e)
same_answer estate names answers.Loaded answers.Loaded h k p q same e = refl
same_answer estate names answers.Replied answers.Replied h k p q same e = refl
same_answer estate names answers.Shown answers.Shown h k p q same e = refl
same_answer estate names (answers.BadWords n) (answers.BadWords n') h k p q same e = ap answers.BadWords (one (codes "1 bad words at") (number n n' p q) e)
same_answer estate names (answers.Estate f) (answers.Estate f') h k p q same e = ap answers.Estate (same_estate_fault f f' p q e)
same_answer estate names (answers.Groups f) (answers.Groups f') h k p q same e = ap answers.Groups (same_group_fault estate names.groups names.datastores f f' h k p q e)
same_answer estate names (answers.Plan n f) (answers.Plan n' f') h k p q same e = let s = same_plan_fault estate names.machines n n' f f' p.0 q.0 h k p.1 q.1 e in join_two answers.Plan s.0 s.1
same_answer estate names (answers.Unmapped u) (answers.Unmapped u') h k p q same e = ap answers.Unmapped (same_unmapped estate names u u' h k e)
same_answer estate names (answers.Refused f) (answers.Refused f') h k p q same e = ap answers.Refused (same_refusal estate names.groups names.plans f f' h k p q e)
same_answer estate names (answers.Request f) (answers.Request f') h k p q same e = ap answers.Request (same_request f f' p q e)
same_answer estate names (answers.TooLong l) (answers.TooLong l') h k p q same e = ap answers.TooLong (same_long estate l l' e)
same_answer estate names (answers.Waiting r s) (answers.Waiting r' s') h k p q same e = let t = three (codes "3 waiting run") (number r r' p.0 q.0) (fixed (codes "prompt") refl) (number s s' p.1 q.1) e in join_two answers.Waiting t.0 t.2
same_answer estate names (answers.Incomplete r s) (answers.Incomplete r' s') h k p q same e = let t = three (codes "4 incomplete run") (number r r' p.0 q.0) (fixed (codes "asides") refl) (number s s' p.1 q.1) e in join_two answers.Incomplete t.0 t.2
same_answer estate names (answers.ArrayFault s) (answers.ArrayFault s') h k p q same e = ap answers.ArrayFault (one (codes "5 array fault") (side s s') e)
same_answer estate names (answers.PortFault n) (answers.PortFault n') h k p q same e = ap answers.PortFault (one (codes "6 port fault") (numbered (machine_names estate) names.machines n n' h k) e)
same_answer estate names (answers.CalloutFault n) (answers.CalloutFault n') h k p q same e = ap answers.CalloutFault (one (codes "7 callout fault") (number n n' p q) e)
same_answer estate names answers.JournalFault answers.JournalFault h k p q same e = refl
same_answer estate names answers.ReadFault answers.ReadFault h k p q same e = refl
same_answer estate names answers.WriteFault answers.WriteFault h k p q same e = refl
same_answer estate names answers.NoMemory answers.NoMemory h k p q same e = refl
same_answer estate names (answers.JournalDamaged n) (answers.JournalDamaged n') h k p q same e = ap answers.JournalDamaged (one (codes "12 journal damaged at") (wide n n' p q) e)
same_answer estate names (answers.Foreign t m n) (answers.Foreign t' m' n') h k p q same e = same_foreign estate names t t' m n m' n' h k p q e
same_answer estate names a b h k p q same e = absurd (differ (key_of a) (key_of b) refl same)

namings : (estate : Option Estate) → IfSome estate IsSoundEstate → HasNames estate → Namings estate
namings None sound names = record {
  machines = record { distinct = none_distinct; each = names.machines };
  pairs = record { distinct = none_distinct; each = names.pairs };
  datastores = record { distinct = none_distinct; each = names.datastores };
  groups = record { distinct = none_distinct; each = names.groups };
  plans = record { distinct = none_distinct; each = names.plans };
}
namings (Some estate) sound names = record {
  machines = record { distinct = sound.none_twice.machines; each = names.machines };
  pairs = record { distinct = sound.none_twice.devices; each = names.pairs };
  datastores = record { distinct = sound.none_twice.datastores; each = names.datastores };
  groups = record { distinct = sound.none_twice.groups; each = names.groups };
  plans = record { distinct = sound.none_twice.plans; each = names.plans };
}

-- two answers with one line are equal
pub told_apart : (estate : Option Estate) (a b : Answer) → IfSome estate IsSoundEstate → HasNames estate → HoldsNumbersOf estate a → HoldsNumbersOf estate b → IsToldAnswer a → IsToldAnswer b → answer_text_of estate a ≡ answer_text_of estate b → a ≡ b
told_apart estate a b sound names h k p q e = same_answer estate (namings estate sound names) a b h k p q (sym (key_told estate a p) ∙ ap key e ∙ key_told estate b q) e
