-- Fields of two answers, whose words are equal only where the fields are.
use Rattle.std.proofs.Common.{◌≡◌, ◌<◌, ◌≤◌, ◌^◌, ◌⊎◌, ℕ, ℤ, List, [], ◌∷◌, length, map, take, get_or, ap, sym, ◌∙◌, refl, arith, Bool, true, false, inl, inr}
use Rattle.std.specs.Prelude.{codes, decimal, bytes_eq, IsTrue, All, FitsSigned}
use Rattle.std.specs.Int.{w64}
use Rattle.std.specs.List.{IsDistinct}
use Rattle.std.specs.Fmt.{signed_decimal}
use Rattle.std.proofs.lemmas.Bool.{false≢true, cases_lt}
use Rattle.std.proofs.lemmas.Fmt.{decimal_injective, signed_decimal_injective}
use Rattle.std.proofs.lemmas.List.Elements.{All-get_or}
use Rattle.std.proofs.lemmas.Map.Keys.{apart_from_distinct}
use Rattle.dr_base.specs.Paths.{is_path}
use Rattle.dr_base.specs.declared.side.Side.{Side}
use Rattle.dr_base.specs.declared.side.Side.TheVariants.{A, B}
use Rattle.dr_base.specs.declared.estate_fault.Limit.{Limit}
use Rattle.dr_base.specs.declared.estate_fault.Limit.TheVariants as limits
use Rattle.dr_base.specs.declared.group_state.Phase.{Phase}
use Rattle.dr_base.specs.declared.group_state.Phase.TheVariants.{Ready, Tested, Recovered}
use Rattle.dr_base.specs.declared.placement.Kind.{Kind}
use Rattle.dr_base.specs.declared.placement.Kind.TheVariants as kinds
use Rattle.dr_base.specs.declared.refusal.AmendKind.{AmendKind}
use Rattle.dr_base.specs.declared.refusal.AmendKind.TheVariants as amends
use Rattle.dr_base.specs.declared.refusal.SlotKind.{SlotKind}
use Rattle.dr_base.specs.declared.refusal.SlotKind.TheVariants as slots
use Rattle.dr_report.specs.Lines.{told}
use Rattle.dr_report.specs.Texts.{name_at, side_text, limit_text, kind_text, phase_text, slot_text, amend_text}
use Rattle.dr_report.specs.Conditions.{IsNumberOf}
use Rattle.dr_report.specs.Values.{IsName, IsPlace, IsNumber, IsWide}
use Rattle.dr_report.proofs.WordLaws.{plain, ArePlain, plain_name, plain_place, plain_path, plain_decimal, plain_signed, differ, words_same}

-- two values with their words, which have no spaces and are equal only where the values are
pub record Field {T : Type 0} (m n : T) (left right : List ℕ) : Type 0 where
  pub left_plain : plain left ≡ true
  pub right_plain : plain right ≡ true
  pub same : left ≡ right → m ≡ n

pub join_two : {S T U : Type 0} (f : S → T → U) {a b : S} {x y : T} → a ≡ b → x ≡ y → f a x ≡ f b y
join_two f {a} {b} {x} {y} p q = ap (λ c. f c x) p ∙ ap (f b) q

pub join_three : {S T U V : Type 0} (f : S → T → U → V) {a b : S} {x y : T} {v w : U} → a ≡ b → x ≡ y → v ≡ w → f a x v ≡ f b y w
join_three f {a} {b} {x} {y} {v} {w} p q r = ap (λ c. f c x v) p ∙ join_two (f b) q r

-- whether a text begins so
abbrev pub begins : List ℕ → List ℕ → Bool
begins front text = bytes_eq front (take (length front) text)

-- a text that begins so isn't one that doesn't
pub other : (front text another : List ℕ) → begins front text ≡ true → begins front another ≡ false → text ≡ another → ⊥
other front text another does not e = false≢true (sym not ∙ ap (begins front) (sym e) ∙ does)

-- lines of one, two and three words
pub one : {S : Type 0} {a b : S} {s t : List ℕ} (front : List ℕ) → Field a b s t → told front (s ∷ []) ≡ told front (t ∷ []) → a ≡ b
one {S} {a} {b} {s} {t} front f e =
    let words = words_same front (s ∷ []) (t ∷ []) (f.left_plain, tt) (f.right_plain, tt) e in
    f.same (ap (λ ws. get_or ws 0 []) words)

pub two : {S T : Type 0} {a b : S} {x y : T} {s t u v : List ℕ} (front : List ℕ) → Field a b s t → Field x y u v → told front (s ∷ u ∷ []) ≡ told front (t ∷ v ∷ []) → (a ≡ b) × (x ≡ y)
two {S} {T} {a} {b} {x} {y} {s} {t} {u} {v} front f g e =
    let words = words_same front (s ∷ u ∷ []) (t ∷ v ∷ []) (f.left_plain, (g.left_plain, tt)) (f.right_plain, (g.right_plain, tt)) e in
    (f.same (ap (λ ws. get_or ws 0 []) words), g.same (ap (λ ws. get_or ws 1 []) words))

pub three : {S T U : Type 0} {a b : S} {x y : T} {m n : U} {s t u v p q : List ℕ} (front : List ℕ) → Field a b s t → Field x y u v → Field m n p q → told front (s ∷ u ∷ p ∷ []) ≡ told front (t ∷ v ∷ q ∷ []) → (a ≡ b) × (x ≡ y) × (m ≡ n)
three {S} {T} {U} {a} {b} {x} {y} {m} {n} {s} {t} {u} {v} {p} {q} front f g h e =
    let words = words_same front (s ∷ u ∷ p ∷ []) (t ∷ v ∷ q ∷ []) (f.left_plain, (g.left_plain, (h.left_plain, tt))) (f.right_plain, (g.right_plain, (h.right_plain, tt))) e in
    (f.same (ap (λ ws. get_or ws 0 []) words), g.same (ap (λ ws. get_or ws 1 []) words), h.same (ap (λ ws. get_or ws 2 []) words))

pub wide : (m n : ℕ) → IsWide m → IsWide n → Field m n (decimal m) (decimal n)
wide m n p q = record { left_plain = plain_decimal m p; right_plain = plain_decimal n q; same = decimal_injective m n p q }

pub number : (m n : ℕ) → IsNumber m → IsNumber n → Field m n (decimal m) (decimal n)
number m n p q = wide m n (omega (arith, p)) (omega (arith, q))

pub signed : (m n : ℤ) → FitsSigned w64 m → FitsSigned w64 n → Field m n (signed_decimal m) (signed_decimal n)
signed m n p q = record { left_plain = plain_signed m p; right_plain = plain_signed n q; same = signed_decimal_injective m n p.sfits q.sfits }

pub name : (m n : List ℕ) → IsName m → IsName n → Field m n m n
name m n p q = record { left_plain = plain_name m p; right_plain = plain_name n q; same = λ e. e }

pub place : (m n : List ℕ) → IsPlace m → IsPlace n → Field m n m n
place m n p q = record { left_plain = plain_place m p; right_plain = plain_place n q; same = λ e. e }

pub path : (m n : List ℕ) → IsTrue (is_path m) → IsTrue (is_path n) → Field m n m n
path m n p q = record { left_plain = plain_path m p; right_plain = plain_path n q; same = λ e. e }

-- a word that stands in both
pub fixed : (word : List ℕ) → plain word ≡ true → Field {T = ℕ} 0 0 word word
fixed word p = record { left_plain = p; right_plain = p; same = λ e. refl }

-- names of which none stands twice
pub record Naming (names : List (List ℕ)) : Type 0 where
  pub distinct : IsDistinct bytes_eq names
  pub each : All IsName names

-- the names of two numbers in order differ
name_apart : (names : List (List ℕ)) → Naming names → (i j : ℕ) → i < j → j < length names → name_at names i ≡ name_at names j → ⊥
name_apart names naming i j before within e = differ (name_at names i) (name_at names j) (apart_from_distinct bytes_eq names i j [] naming.distinct before within) e

by_order : (names : List (List ℕ)) → Naming names → (i j : ℕ) → i < length names → j < length names → name_at names i ≡ name_at names j → (i < j) ⊎ (j ≤ i) → (j < i) ⊎ (i ≤ j) → i ≡ j
by_order names naming i j p q e (inl before) order = absurd (name_apart names naming i j before q e)
by_order names naming i j p q e (inr after) (inl before) = absurd (name_apart names naming j i before p (sym e))
by_order names naming i j p q e (inr after) (inr before) = omega (arith, after, before)

name_same : (names : List (List ℕ)) → Naming names → (i j : ℕ) → i < length names → j < length names → name_at names i ≡ name_at names j → i ≡ j
name_same names naming i j p q e =
    by_order names naming i j p q e (cases_lt i j) (cases_lt j i)

pub numbered : (names : List (List ℕ)) → Naming names → (i j : ℕ) → IsNumberOf names i → IsNumberOf names j → Field i j (name_at names i) (name_at names j)
numbered names naming i j p q = record {
  left_plain = plain_name (name_at names i) (All-get_or IsName names i [] p naming.each);
  right_plain = plain_name (name_at names j) (All-get_or IsName names j [] q naming.each);
  same = name_same names naming i j p q;
}

side_plain : (s : Side) → plain (side_text s) ≡ true
side_plain A = refl
side_plain B = refl

side_same : (s t : Side) → side_text s ≡ side_text t → s ≡ t
side_same A A e = refl
side_same B B e = refl
side_same s t e = absurd (differ (side_text s) (side_text t) refl e)

pub side : (s t : Side) → Field s t (side_text s) (side_text t)
side s t = record { left_plain = side_plain s; right_plain = side_plain t; same = side_same s t }

limit_plain : (s : Limit) → plain (limit_text s) ≡ true
limit_plain limits.Bytes = refl
limit_plain limits.Machines = refl
limit_plain limits.Devices = refl
limit_plain limits.Datastores = refl
limit_plain limits.Consistency = refl
limit_plain limits.Groups = refl
limit_plain limits.Maps = refl
limit_plain limits.Plans = refl
limit_plain limits.MachineDatastores = refl
limit_plain limits.DatastoreDevices = refl
limit_plain limits.PlanSteps = refl
limit_plain limits.PlanAfter = refl
limit_plain limits.PlanBefore = refl
limit_plain limits.PlanThen = refl
limit_plain limits.PlanSuspend = refl

limit_same : (s t : Limit) → limit_text s ≡ limit_text t → s ≡ t
limit_same limits.Bytes limits.Bytes e = refl
limit_same limits.Machines limits.Machines e = refl
limit_same limits.Devices limits.Devices e = refl
limit_same limits.Datastores limits.Datastores e = refl
limit_same limits.Consistency limits.Consistency e = refl
limit_same limits.Groups limits.Groups e = refl
limit_same limits.Maps limits.Maps e = refl
limit_same limits.Plans limits.Plans e = refl
limit_same limits.MachineDatastores limits.MachineDatastores e = refl
limit_same limits.DatastoreDevices limits.DatastoreDevices e = refl
limit_same limits.PlanSteps limits.PlanSteps e = refl
limit_same limits.PlanAfter limits.PlanAfter e = refl
limit_same limits.PlanBefore limits.PlanBefore e = refl
limit_same limits.PlanThen limits.PlanThen e = refl
limit_same limits.PlanSuspend limits.PlanSuspend e = refl
limit_same s t e = absurd (differ (limit_text s) (limit_text t) refl e)

pub limit : (s t : Limit) → Field s t (limit_text s) (limit_text t)
limit s t = record { left_plain = limit_plain s; right_plain = limit_plain t; same = limit_same s t }

kind_plain : (s : Kind) → plain (kind_text s) ≡ true
kind_plain kinds.Network = refl
kind_plain kinds.Folder = refl
kind_plain kinds.Pool = refl
kind_plain kinds.Test = refl

kind_same : (s t : Kind) → kind_text s ≡ kind_text t → s ≡ t
kind_same kinds.Network kinds.Network e = refl
kind_same kinds.Folder kinds.Folder e = refl
kind_same kinds.Pool kinds.Pool e = refl
kind_same kinds.Test kinds.Test e = refl
kind_same s t e = absurd (differ (kind_text s) (kind_text t) refl e)

pub kind : (s t : Kind) → Field s t (kind_text s) (kind_text t)
kind s t = record { left_plain = kind_plain s; right_plain = kind_plain t; same = kind_same s t }

phase_plain : (s : Phase) → plain (phase_text s) ≡ true
phase_plain Ready = refl
phase_plain Tested = refl
phase_plain Recovered = refl

phase_same : (s t : Phase) → phase_text s ≡ phase_text t → s ≡ t
phase_same Ready Ready e = refl
phase_same Tested Tested e = refl
phase_same Recovered Recovered e = refl
phase_same s t e = absurd (differ (phase_text s) (phase_text t) refl e)

pub phase : (s t : Phase) → Field s t (phase_text s) (phase_text t)
phase s t = record { left_plain = phase_plain s; right_plain = phase_plain t; same = phase_same s t }

slot_plain : (s : SlotKind) → plain (slot_text s) ≡ true
slot_plain slots.Machines = refl
slot_plain slots.Pairs = refl

slot_same : (s t : SlotKind) → slot_text s ≡ slot_text t → s ≡ t
slot_same slots.Machines slots.Machines e = refl
slot_same slots.Pairs slots.Pairs e = refl
slot_same s t e = absurd (differ (slot_text s) (slot_text t) refl e)

pub slot : (s t : SlotKind) → Field s t (slot_text s) (slot_text t)
slot s t = record { left_plain = slot_plain s; right_plain = slot_plain t; same = slot_same s t }

amend_plain : (s : AmendKind) → plain (amend_text s) ≡ true
amend_plain amends.Order = refl
amend_plain amends.Moved = refl
amend_plain amends.Busy = refl

amend_same : (s t : AmendKind) → amend_text s ≡ amend_text t → s ≡ t
amend_same amends.Order amends.Order e = refl
amend_same amends.Moved amends.Moved e = refl
amend_same amends.Busy amends.Busy e = refl
amend_same s t e = absurd (differ (amend_text s) (amend_text t) refl e)

pub amend : (s t : AmendKind) → Field s t (amend_text s) (amend_text t)
amend s t = record { left_plain = amend_plain s; right_plain = amend_plain t; same = amend_same s t }
