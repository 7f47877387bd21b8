-- What groups hold, from marks.
use Rattle.std.proofs.Common.{◌≡◌, ◌↔◌, ◌∙◌, ℕ, ◌+◌, ◌<◌, Bool, List, [], ◌∷◌, ◌++◌, length, length-append, get_or, Some, slice_get, Result, Ok, Err, IfOk, inl, inr, sym, ap, subst, arith}
use Rattle.std.specs.List.{Contains}
use Rattle.std.proofs.Math.Seq.{get_or-append_seam}
use Rattle.std.proofs.lemmas.Bool.{cases_lt}
use Rattle.std.proofs.lemmas.List.{get_or_append_left}
use Rattle.std.proofs.lemmas.Option.{slice_get-get_or, slice_get_within, get_or_from_slice_get}
use Rattle.dr_inventory.specs.declared.estate.Estate.{Estate}
use Rattle.dr_groups.specs.Links.{HasDevice}
use Rattle.dr_groups.specs.Marks.{IsMarked, ListsAscending}
use Rattle.dr_groups.specs.Groups.{IsInGroup, IsPairOf, IsMachineOf}
use Rattle.dr_groups.specs.Searches.{MarksGroup, IsDeviceAmong, IsMachineWithin}
use Rattle.dr_groups.proofs.RowLaws.{contained_at}

pub if_ok-weaker : {A E : Type 0} (r : Result A E) (P Q : A → Type 0) → ((a : A) → P a → Q a) → IfOk r P → IfOk r Q
if_ok-weaker (Ok a) P Q each h = each a h
if_ok-weaker (Err e) P Q each h = tt

pub lists_same : (Has Have : ℕ → Type 0) (numbers : List ℕ) → ((k : ℕ) → Has k ↔ Have k) → ListsAscending Has numbers → ListsAscending Have numbers
lists_same Has Have numbers same lists = record {
  ascending = lists.ascending;
  exactly = λ k. (λ listed. (same k).0 ((lists.exactly k).0 listed), λ have. (lists.exactly k).1 ((same k).1 have));
}

-- the devices of one datastore more
pub devices_more : (e : Estate) (ds : List ℕ) (i : ℕ) (old new : List Bool) → ((v : ℕ) → IsMarked old v → IsMarked new v) → ((k : ℕ) → k < i → (v : ℕ) → HasDevice e (get_or ds k 0) v → IsMarked old v)
    → ((v : ℕ) → HasDevice e (get_or ds i 0) v → IsMarked new v) → (k : ℕ) → k < i + 1 → (v : ℕ) → HasDevice e (get_or ds k 0) v → IsMarked new v
devices_more e ds i old new kept before here k below v has = elim (cases_lt k i) [
  | inl lower ↦ kept v (before k lower v has)
  | inr last ↦ let same : k ≡ i = omega arith in let P : ℕ → Type 0 = λ n. HasDevice e (get_or ds n 0) v in here v (subst P same has)
]

pub among_at : (e : Estate) (ds : List ℕ) (v : ℕ) → IsDeviceAmong e ds v → (k : ℕ) × (k < length ds) × HasDevice e (get_or ds k 0) v
among_at e ds v among =
    let at = contained_at ds among.datastore among.listed in
    let P : ℕ → Type 0 = λ n. HasDevice e n v in
    (at.0, at.1, subst P (sym at.2) among.named)

-- the devices among a group's datastores are its pairs
pub pairs_marked : (e : Estate) (g : ℕ) (ds : List ℕ) (marks : List Bool) → ((d : ℕ) → Contains ds d ↔ IsInGroup e g d) → ((v : ℕ) → IsDeviceAmong e ds v → IsMarked marks v)
    → ((v : ℕ) → IsMarked marks v → IsDeviceAmong e ds v) → (v : ℕ) → IsMarked marks v ↔ IsPairOf e g v
pairs_marked e g ds marks named marked only v = (
  λ m. let among = only v m in record { datastore = among.datastore; in_group = (named among.datastore).0 among.listed; named = among.named },
  λ p. marked v (record { datastore = p.datastore; listed = (named p.datastore).1 p.in_group; named = p.named }),
)

-- the machines within a group's marks are its machines
pub machines_within : (e : Estate) (g : ℕ) (marks : List Bool) → MarksGroup e g marks → (m : ℕ) → IsMachineWithin e marks m ↔ IsMachineOf e g m
machines_within e g marks exact m = (
  λ w. record { row = w.row; found = w.found; on_some = w.on_some; within = λ d named. (exact.exactly d).0 (w.marked d named) },
  λ o. record { row = o.row; found = o.found; on_some = o.on_some; marked = λ d named. (exact.exactly d).1 (o.within d named) },
)

-- one list more
pub lists_push : (Belongs : ℕ → ℕ → Type 0) (before now : List (List ℕ)) (x : List ℕ) (i : ℕ) → length before ≡ i → ((k : ℕ) (ns : List ℕ) → slice_get before k ≡ Some ns → ListsAscending (Belongs k) ns)
    → now ≡ before ++ x ∷ [] → ListsAscending (Belongs i) x → (k : ℕ) (ns : List ℕ) → slice_get now k ≡ Some ns → ListsAscending (Belongs k) ns
lists_push Belongs before now x i long each pushed here k ns found =
    let all : length now ≡ length before + 1 = ap length pushed ∙ length-append before (x ∷ []) in
    let within = slice_get_within now k ns found in
    let read : get_or (before ++ x ∷ []) k x ≡ ns = ap (λ xs. get_or xs k x) (sym pushed) ∙ get_or_from_slice_get now k ns x found in
    elim (cases_lt k (length before)) [
      | inl lower ↦ each k ns (slice_get-get_or before k x lower ∙ ap (λ z. Some z) (sym (get_or_append_left before (x ∷ []) x k lower) ∙ read))
      | inr last ↦
          let at : k ≡ length before = omega (arith, all, within) in
          let is_x : x ≡ ns = sym (ap (λ n. get_or (before ++ x ∷ []) n x) at ∙ get_or-append_seam before x [] x) ∙ read in
          let P : List ℕ → Type 0 = λ xs. ListsAscending (Belongs k) xs in
          let Q : ℕ → Type 0 = λ n. ListsAscending (Belongs n) x in
          subst P is_x (subst Q (sym (at ∙ long)) here)
    ]
