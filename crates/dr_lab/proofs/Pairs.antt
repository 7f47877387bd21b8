-- The parts of a pair's text, joined.
use Rattle.std.proofs.Common.{ℕ, ◌≡◌, ◌∙◌, ◌<◌, ◌≤◌, ◌+◌, ◌%◌, ◌^◌, ◌∷◌, arith, true, Bool, List, [], Option, Some, None, refl, sym, ◌≢◌}
use Rattle.std.specs.Prelude.{codes, decimal}
use Rattle.std.specs.Prelude.{nat_le}
use Rattle.std.specs.List.{list_all}
use Rattle.std.proofs.lemmas.Bool.Decides.{nat_tests}
use Rattle.std.proofs.lemmas.Fmt.{decimal_by_steps}
use Rattle.std.proofs.lemmas.List.Folds.{list_all-append}
use Rattle.dr_base.specs.declared.side.Side.{Side}
use Rattle.dr_outside.specs.declared.pair.Content.{Content}
use Rattle.dr_outside.specs.declared.pair.Snapshot.{Snapshot}
use Rattle.dr_outside.specs.declared.pair.Link.{Link}
use Rattle.dr_outside.specs.declared.pair.Pair.{Pair}
use Rattle.dr_lab.specs.Fields.{field, either_word, Taken, NoneThere, Spells}
use Rattle.dr_lab.specs.PairText.{IsSmall, IsLarge, IsRun, side_word, link_word, run_word, number_line, content_text, IsContent, volume_text, volumes_text, AreVolumes, snapshot_text, IsSnapshot, pair_text, IsPair}
use Rattle.dr_lab.proofs.Values.{Free, free_decimal}
use Rattle.dr_lab.proofs.Optional.{opt_text, IsOpt, head_alone, head_and_tail, tail_none, head_none}
use Rattle.dr_lab.proofs.Joins.{Both, both_text, Any, remade, remade_none}

abbrev pub line : List ℕ → ℕ → List ℕ
line front n = number_line front n

abbrev pub last_two : ℕ × ℕ → List ℕ
last_two = both_text (number_line (codes "  base ")) (number_line (codes "  writes "))

abbrev pub three : ℕ × (ℕ × ℕ) → List ℕ
three = both_text (number_line (codes "  line ")) last_two

abbrev content_of : ℕ × (ℕ × ℕ) → Content
content_of p = record { line = p.0; base = p.1.0; writes = p.1.1 }

abbrev numbers_of : Content → ℕ × (ℕ × ℕ)
numbers_of c = (c.line, (c.base, c.writes))

pub content_made : {bytes rest : List ℕ} {p : ℕ × (ℕ × ℕ)} → Taken (Both IsSmall (Both IsLarge IsLarge)) three bytes p rest → Taken IsContent content_text bytes (content_of p) rest
unfolding content_text
content_made t = remade IsContent content_text content_of numbers_of (λ a h. h) (λ c h. h) (λ c h. refl) (λ a h. refl) t

pub content_none : {bytes : List ℕ} → NoneThere (Both IsSmall (Both IsLarge IsLarge)) three bytes → NoneThere IsContent content_text bytes
unfolding content_text
content_none t = remade_none IsContent content_text numbers_of (λ c h. h) (λ c h. refl) t

abbrev pub access_line : List ℕ → Bool → List ℕ
access_line front b = field front 10 (either_word (codes "writable") (codes "read-only") b)

abbrev pub IsVolume : Bool × Content → Type 0
IsVolume volume = IsContent volume.1

pub volume_made : (front : List ℕ) {bytes rest : List ℕ} {p : Bool × Content} → Taken (Both Any IsContent) (both_text (access_line front) content_text) bytes p rest → Taken IsVolume (volume_text front) bytes p rest
unfolding volume_text
volume_made front t = remade IsVolume (volume_text front) (λ (p : Bool × Content). p) (λ (p : Bool × Content). p) (λ a h. h.1) (λ c h. (tt, h)) (λ c h. refl) (λ a h. refl) t

pub volume_none : (front : List ℕ) {bytes : List ℕ} → NoneThere (Both Any IsContent) (both_text (access_line front) content_text) bytes → NoneThere IsVolume (volume_text front) bytes
unfolding volume_text
volume_none front t = remade_none IsVolume (volume_text front) (λ (p : Bool × Content). p) (λ c h. (tt, h)) (λ c h. refl) t

pub volumes_made : {bytes rest : List ℕ} {p : (Bool × Content) × (Bool × Content)} → Taken (Both IsVolume IsVolume) (both_text (volume_text (codes "A ")) (volume_text (codes "B "))) bytes p rest → Taken AreVolumes volumes_text bytes p rest
unfolding volumes_text
volumes_made t = remade AreVolumes volumes_text (λ (p : (Bool × Content) × (Bool × Content)). p) (λ (p : (Bool × Content) × (Bool × Content)). p) (λ a h. h) (λ c h. h) (λ c h. refl) (λ a h. refl) t

pub volumes_none : {bytes : List ℕ} → NoneThere (Both IsVolume IsVolume) (both_text (volume_text (codes "A ")) (volume_text (codes "B "))) bytes → NoneThere AreVolumes volumes_text bytes
unfolding volumes_text
volumes_none t = remade_none AreVolumes volumes_text (λ (p : (Bool × Content) × (Bool × Content)). p) (λ c h. h) (λ c h. refl) t

abbrev pub run_line : Option ℕ → List ℕ
run_line run = field (codes "snapshot ") 10 (run_word run)

abbrev parts_of_snapshot : Option Snapshot → Option (ℕ × Content)
parts_of_snapshot None = None
parts_of_snapshot (Some s) = Some (s.run, s.content)

abbrev snapshot_of : Option (ℕ × Content) → Option Snapshot
snapshot_of None = None
snapshot_of (Some p) = Some (record { run = p.0; content = p.1 })

abbrev IsRunAnd : Option (ℕ × Content) → Type 0
IsRunAnd = IsOpt IsRun IsContent run_line content_text

abbrev run_and_text : Option (ℕ × Content) → List ℕ
run_and_text = opt_text IsRun IsContent run_line content_text

are_parts : (s : Option Snapshot) → IsSnapshot s → IsRunAnd (parts_of_snapshot s)
are_parts None is = tt
are_parts (Some s) is = is

is_snapshot : (p : Option (ℕ × Content)) → IsRunAnd p → IsSnapshot (snapshot_of p)
is_snapshot None is = tt
is_snapshot (Some p) is = is

again_snapshot : (s : Option Snapshot) → IsSnapshot s → snapshot_of (parts_of_snapshot s) ≡ s
again_snapshot None is = refl
again_snapshot (Some s) is = refl

same_snapshot : (p : Option (ℕ × Content)) → IsRunAnd p → snapshot_text (snapshot_of p) ≡ run_and_text p
unfolding snapshot_text
same_snapshot None is = refl
same_snapshot (Some p) is = refl

same_parts : (s : Option Snapshot) → IsSnapshot s → snapshot_text s ≡ run_and_text (parts_of_snapshot s)
unfolding snapshot_text
same_parts None is = refl
same_parts (Some s) is = refl

-- a text without a snapshot
pub no_snapshot : {bytes rest : List ℕ} → Taken IsRun run_line bytes None rest → Taken IsSnapshot snapshot_text bytes None rest
no_snapshot t = remade IsSnapshot snapshot_text snapshot_of parts_of_snapshot is_snapshot are_parts again_snapshot same_snapshot (head_alone IsRun IsContent run_line content_text t)

-- a text with one
pub a_snapshot : {bytes mid rest : List ℕ} {run : ℕ} {content : Content} → Taken IsRun run_line bytes (Some run) mid → Taken IsContent content_text mid content rest → Taken IsSnapshot snapshot_text bytes (Some (record { run = run; content = content })) rest
a_snapshot t u = remade IsSnapshot snapshot_text snapshot_of parts_of_snapshot is_snapshot are_parts again_snapshot same_snapshot (head_and_tail IsRun IsContent run_line content_text t u)

-- nor one whose content isn't there
pub half_snapshot : {bytes mid : List ℕ} {run : ℕ} → Taken IsRun run_line bytes (Some run) mid → NoneThere IsContent content_text mid → NoneThere IsSnapshot snapshot_text bytes
half_snapshot t u = remade_none IsSnapshot snapshot_text parts_of_snapshot are_parts same_parts (tail_none IsRun IsContent run_line content_text t u)

-- no snapshot where its line isn't there
pub none_snapshot : {bytes : List ℕ} → NoneThere IsRun run_line bytes → NoneThere IsSnapshot snapshot_text bytes
none_snapshot t = remade_none IsSnapshot snapshot_text parts_of_snapshot are_parts same_parts (head_none IsRun IsContent run_line content_text t)

abbrev pub Volumes : Type 0
Volumes = (Bool × Content) × (Bool × Content)

abbrev pub source_line : Side → List ℕ
source_line s = field (codes "source ") 10 (side_word s)

abbrev pub link_line : Link → List ℕ
link_line l = field (codes "link ") 10 (link_word l)

abbrev pub rest_text : Volumes × Option Snapshot → List ℕ
rest_text = both_text volumes_text snapshot_text

abbrev pub link_text : Link × (Volumes × Option Snapshot) → List ℕ
link_text = both_text link_line rest_text

abbrev pub whole_text : Side × (Link × (Volumes × Option Snapshot)) → List ℕ
whole_text = both_text source_line link_text

abbrev pub AreParts : Side × (Link × (Volumes × Option Snapshot)) → Type 0
AreParts = Both Any (Both Any (Both AreVolumes IsSnapshot))

abbrev pair_of : Side × (Link × (Volumes × Option Snapshot)) → Pair
pair_of p = record { source = p.0; link = p.1.0; writable = record { a = p.1.1.0.0.0; b = p.1.1.0.1.0 }; content = record { a = p.1.1.0.0.1; b = p.1.1.0.1.1 }; snapshot = p.1.1.1 }

abbrev parts_of : Pair → Side × (Link × (Volumes × Option Snapshot))
parts_of p = (p.source, (p.link, (((p.writable.a, p.content.a), (p.writable.b, p.content.b)), p.snapshot)))

pub pair_made : {bytes rest : List ℕ} {p : Side × (Link × (Volumes × Option Snapshot))} → Taken AreParts whole_text bytes p rest → Taken IsPair pair_text bytes (pair_of p) rest
unfolding pair_text
pair_made t = remade IsPair pair_text pair_of parts_of (λ a h. h.1.1) (λ c h. (tt, (tt, h))) (λ c h. refl) (λ a h. refl) t

pub pair_none : {bytes : List ℕ} → NoneThere AreParts whole_text bytes → NoneThere IsPair pair_text bytes
unfolding pair_text
pair_none t = remade_none IsPair pair_text parts_of (λ c h. (tt, (tt, h))) (λ c h. refl) t

-- "none" is no number
pub none_free : (end : ℕ) → Free end (codes "none") → (run : Option ℕ) → IsRun run → end < 45 → Free end (run_word run)
none_free end free None is below = free
none_free end free (Some run) is below = free_decimal 4294967295 end below (omega arith) run is

low_digits : (n : ℕ) → n < 2 ^ 64 → list_all (λ b. nat_le b 57) (decimal n) ≡ true
low_digits n fits = decimal_by_steps (λ k ds. list_all (λ b. nat_le b 57) ds ≡ true) (λ k one. grind (arith, nat_tests)) (λ k ds more front. list_all-append (λ b. nat_le b 57) ds ((48 + k % 10) ∷ []) ∙ rw front (grind (arith, nat_tests))) n fits

-- no number is spelled so
pub not_none : (n : ℕ) → n ≤ 4294967295 → codes "none" ≢ decimal n
not_none n small e = absurd (cc (low_digits n (omega arith)))

only_no_run : (word : List ℕ) → word ≡ codes "none" → (y : Option ℕ) → IsRun y → word ≡ run_word y → y ≡ None
only_no_run word is None fits e = refl
only_no_run word is (Some n) fits e = absurd (not_none n fits (sym is ∙ e))

-- the word that names no run
pub no_run : (word : List ℕ) → word ≡ codes "none" → Spells IsRun run_word word None
no_run word is = record { is = tt; whole = is; only = only_no_run word is }
