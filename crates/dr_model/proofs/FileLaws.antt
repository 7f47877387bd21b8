-- A file tells one setting and its runs, and with one record more it tells the runs with that record.
use Rattle.std.specs.Prelude.{◌≡◌, ℕ, zero, suc, ◌≤◌, ◌⊎◌, List, [], ◌∷◌, ◌++◌, length, take}
use Rattle.std.proofs.Common.{refl, sym, ap, ◌∙◌, subst, inl, inr, arith}
use Rattle.std.proofs.lemmas.List.{append-nil}
use Rattle.dr_declared.specs.declared.contents.Declared.{Declared}
use Rattle.dr_declared.proofs.UniqueLaws.{one_declared}
use Rattle.dr_records.proofs.Whole.{one_record}
use Rattle.dr_disk.specs.Disk.{Follows}
use Rattle.dr_journal.specs.Reading.Reading.{Whole as WholeFile}
use Rattle.dr_journal.specs.Kept.{SameRecords, Appends, AppendsSome}
use Rattle.dr_journal.proofs.Laws.{whole_same}
use Rattle.dr_meaning.specs.Types.{Record}
use Rattle.dr_meaning.specs.Worlds.{World}
use Rattle.dr_meaning.specs.Runs.{Setting, Run, runs_of, add_record}
use Rattle.dr_meaning.specs.Lawful.{MayCome}
use Rattle.dr_meaning.specs.Journals.{DeclaresSetting, IsSpelled, AreSpelled, HasRecords, Stands, Tells, AllTell}
use Rattle.dr_meaning.specs.Sound.{IsSoundBy, IsSound, AreSound}
use Rattle.dr_meaning.proofs.AppendLaws.{runs_of-append, LawfulAfter-append}

-- What a file tells is one

one_item : (body : List ℕ) (a b : Record) → IsSpelled body a → IsSpelled body b → a ≡ b
one_item body a b p q = one_record a b p.is_record q.is_record (p.spelled ∙ sym q.spelled)

pub one_list : (bodies : List (List ℕ)) (xs ys : List Record) → AreSpelled bodies xs → AreSpelled bodies ys → xs ≡ ys
one_list [] [] [] p q = refl
one_list [] [] (y ∷ ys) p q = elim q [ ]
one_list [] (x ∷ xs) ys p q = elim p [ ]
one_list (body ∷ bodies) [] ys p q = elim p [ ]
one_list (body ∷ bodies) (x ∷ xs) [] p q = elim q [ ]
one_list (body ∷ bodies) (x ∷ xs) (y ∷ ys) p q =
    let first : x ≡ y = one_item body x y p.0 q.0 in
    let rest : xs ≡ ys = one_list bodies xs ys p.1 q.1 in
    λ i. first i ∷ rest i

-- the records of a file are one
pub one_records : (file : List ℕ) (xs ys : List Record) → HasRecords xs file → HasRecords ys file → xs ≡ ys
one_records file xs ys p q =
    let same : p.bodies ≡ q.bodies = whole_same p.bodies q.bodies (sym p.whole ∙ q.whole) in
    one_list q.bodies xs ys (subst (λ l. AreSpelled l xs) same p.spelled) q.spelled

-- the setting that an estate's text declares is one
one_setting : (bytes : List ℕ) (s t : Setting) → DeclaresSetting bytes s → DeclaresSetting bytes t → s ≡ t
one_setting bytes s t a b =
    let declared_s : Declared = record { estate = s.estate; members = a.members; plans = s.plans } in
    let declared_t : Declared = record { estate = t.estate; members = b.members; plans = t.plans } in
    let same : declared_s ≡ declared_t = one_declared bytes declared_s declared_t a.declares b.declares in
    λ i. record { estate = (same i).estate; plans = (same i).plans }

abbrev bytes_of : List Record → List ℕ
bytes_of (Record.Estate bytes ∷ rest) = bytes
bytes_of _ = []

abbrev behind : List Record → List Record
behind [] = []
behind (item ∷ rest) = rest

-- in a journal of these records one setting is in force, and its runs stand
pub one_stand : (s t : Setting) (records : List Record) (a b : List Run) → Stands s records a → Stands t records b → (s ≡ t) × (a ≡ b)
one_stand s t records a b p q =
    let same : Record.Estate p.bytes ∷ p.rest ≡ Record.Estate q.bytes ∷ q.rest = sym p.are ∙ q.are in
    let bytes : p.bytes ≡ q.bytes = ap bytes_of same in
    let rest : p.rest ≡ q.rest = ap behind same in
    let setting : s ≡ t = one_setting q.bytes s t (subst (λ l. DeclaresSetting l s) bytes p.declares) q.declares in
    (setting, p.runs_are ∙ (λ i. runs_of (setting i) (rest i)) ∙ sym q.runs_are)

-- a file tells one setting and its runs
pub one_told : (s t : Setting) (a b : List Run) (file : List ℕ) → Tells s a file → Tells t b file → (s ≡ t) × (a ≡ b)
one_told s t a b file p q =
    let same : p.records ≡ q.records = one_records file p.records q.records p.has q.has in
    one_stand s t q.records a b (subst (λ l. Stands s l a) same p.stand) q.stand

-- it isn't empty
not_empty : (setting : Setting) (runs : List Run) (file : List ℕ) → Tells setting runs file → HasRecords [] file → ⊥
not_empty setting runs file t empty = let wrong : Record.Estate t.stand.bytes ∷ t.stand.rest ≡ [] = sym t.stand.are ∙ one_records file t.records [] t.has empty in cc

-- it is sound by the runs that it tells
pub sound_by_told : (setting : Setting) (runs : List Run) (world : World) (file : List ℕ) → Tells setting runs file → IsSound world file → IsSoundBy setting runs world
sound_by_told setting runs world file t (inl empty) = absurd (not_empty setting runs file t empty)
sound_by_told setting runs world file t (inr s) =
    let (settings, lists) = one_told s.setting setting s.runs runs file s.tells t in
    subst (λ l. IsSoundBy setting l world) lists (subst (λ x. IsSoundBy x s.runs world) settings s.sound)

pub told_sound : (setting : Setting) (runs : List Run) (world : World) (file : List ℕ) → Tells setting runs file → IsSoundBy setting runs world → IsSound world file
told_sound setting runs world file t sound = inr (record { setting = setting; runs = runs; tells = t; sound = sound })

-- The same records

pub same_has : (records : List Record) (old new : List ℕ) → SameRecords old new → HasRecords records old → HasRecords records new
same_has records old new same h = record { bodies = h.bodies; whole = same ∙ h.whole; spelled = h.spelled }

pub same_tells : (setting : Setting) (runs : List Run) (old new : List ℕ) → SameRecords old new → Tells setting runs old → Tells setting runs new
same_tells setting runs old new same t = record { records = t.records; has = same_has t.records old new same t.has; stand = t.stand }

pub same_all : (setting : Setting) (runs : List Run) (A B : List ℕ → Type 0) → Follows SameRecords A B → AllTell setting runs A → AllTell setting runs B
same_all setting runs A B follows told c here = let (old, was, same) = follows c here in same_tells setting runs old c same (told old was)

pub same_sound : (world : World) (old new : List ℕ) → SameRecords old new → IsSound world old → IsSound world new
same_sound world old new same (inl empty) = inl (same_has [] old new same empty)
same_sound world old new same (inr s) = inr (record { setting = s.setting; runs = s.runs; tells = same_tells s.setting s.runs old new same s.tells; sound = s.sound })

pub opened_sound : (world : World) (A B : List ℕ → Type 0) → Follows SameRecords A B → AreSound A world → AreSound B world
opened_sound world A B follows sound c here = let (old, was, same) = follows c here in same_sound world old c same (sound old was)

-- One record more

pub spelled_append : (bodies : List (List ℕ)) (records : List Record) (body : List ℕ) (item : Record) → AreSpelled bodies records → IsSpelled body item → AreSpelled (bodies ++ body ∷ []) (records ++ item ∷ [])
spelled_append [] [] body item h is = (is, tt)
spelled_append [] (r ∷ records) body item h is = elim h [ ]
spelled_append (b ∷ bodies) [] body item h is = elim h [ ]
spelled_append (b ∷ bodies) (r ∷ records) body item h is = (h.0, spelled_append bodies records body item h.1 is)

pub append_has : (records : List Record) (body : List ℕ) (item : Record) (old new : List ℕ) → Appends (body ∷ []) old new → IsSpelled body item → HasRecords records old → HasRecords (records ++ item ∷ []) new
append_has records body item old new appends is h = record {
  bodies = h.bodies ++ body ∷ [];
  whole = appends.has ∙ ap (λ l. WholeFile (l ++ body ∷ [])) (whole_same appends.bodies h.bodies (sym appends.had ∙ h.whole));
  spelled = spelled_append h.bodies records body item h.spelled is;
}

-- the runs with the record stand in the journal with it
pub append_stands : (setting : Setting) (records : List Record) (runs : List Run) (item : Record) → Stands setting records runs → MayCome setting runs item → Stands setting (records ++ item ∷ []) (add_record setting runs item)
append_stands setting records runs item s may = record {
  bytes = s.bytes;
  rest = s.rest ++ item ∷ [];
  are = ap (λ l. l ++ item ∷ []) s.are;
  declares = s.declares;
  lawful = LawfulAfter-append setting [] s.rest item s.lawful (subst (λ l. MayCome setting l item) s.runs_are may);
  runs_are = ap (λ l. add_record setting l item) s.runs_are ∙ sym (runs_of-append setting s.rest item);
}

-- no run stands in the journal of an Estate alone
pub declare_stands : (setting : Setting) (bytes : List ℕ) → DeclaresSetting bytes setting → Stands setting (Record.Estate bytes ∷ []) []
declare_stands setting bytes declares = record { bytes = bytes; rest = []; are = refl; declares = declares; lawful = tt; runs_are = refl }

-- the file tells the runs with the record
pub append_tells : (setting : Setting) (runs : List Run) (item : Record) (body old new : List ℕ) → Tells setting runs old → MayCome setting runs item → IsSpelled body item → Appends (body ∷ []) old new → Tells setting (add_record setting runs item) new
append_tells setting runs item body old new t may is appends = record {
  records = t.records ++ item ∷ [];
  has = append_has t.records body item old new appends is t.has;
  stand = append_stands setting t.records runs item t.stand may;
}

pub append_all : (setting : Setting) (runs : List Run) (item : Record) (body : List ℕ) (A B : List ℕ → Type 0) → AllTell setting runs A → MayCome setting runs item → IsSpelled body item → Follows (Appends (body ∷ [])) A B → AllTell setting (add_record setting runs item) B
append_all setting runs item body A B told may is follows c here = let (old, was, appends) = follows c here in append_tells setting runs item body old c (told old was) may is appends

-- and a declaring file, no run
pub declare_tells : (setting : Setting) (bytes body old new : List ℕ) → HasRecords [] old → DeclaresSetting bytes setting → IsSpelled body (Record.Estate bytes) → Appends (body ∷ []) old new → Tells setting [] new
declare_tells setting bytes body old new empty declares is appends = record {
  records = Record.Estate bytes ∷ [];
  has = append_has [] body (Record.Estate bytes) old new appends is empty;
  stand = declare_stands setting bytes declares;
}

pub declare_all : (setting : Setting) (bytes body : List ℕ) (A B : List ℕ → Type 0) → ((file : List ℕ) → A file → HasRecords [] file) → DeclaresSetting bytes setting → IsSpelled body (Record.Estate bytes) → Follows (Appends (body ∷ [])) A B → AllTell setting [] B
declare_all setting bytes body A B empty declares is follows c here = let (old, was, appends) = follows c here in declare_tells setting bytes body old c (empty old was) declares is appends

-- none of one record is appended, or it is
none_or_one : (body : List ℕ) (n : ℕ) → n ≤ length (body ∷ []) → (take n (body ∷ []) ≡ []) ⊎ (take n (body ∷ []) ≡ body ∷ [])
none_or_one body zero le = inl refl
none_or_one body (suc zero) le = inr refl
none_or_one body (suc (suc n)) le = absurd (omega (arith, le))

pub some_or_same : (body old new : List ℕ) → AppendsSome (body ∷ []) old new → SameRecords old new ⊎ Appends (body ∷ []) old new
some_or_same body old new some = go (none_or_one body some.count some.within)
  where
    go : (take some.count (body ∷ []) ≡ []) ⊎ (take some.count (body ∷ []) ≡ body ∷ []) → SameRecords old new ⊎ Appends (body ∷ []) old new
    go (inl none) = inl (some.appends.has ∙ ap (λ l. WholeFile (some.appends.bodies ++ l)) none ∙ ap WholeFile (append-nil some.appends.bodies) ∙ sym some.appends.had)
    go (inr one) = inr (subst (λ l. Appends l old new) one some.appends)

-- each image is sound, whichever of them has the record
pub append_sound : (setting : Setting) (runs : List Run) (item : Record) (body : List ℕ) (world : World) (A B : List ℕ → Type 0) → AllTell setting runs A → MayCome setting runs item → IsSpelled body item → Follows (AppendsSome (body ∷ [])) A B
    → ((file : List ℕ) → A file → IsSoundBy setting runs world → IsSoundBy setting (add_record setting runs item) world) → AreSound A world → AreSound B world
append_sound setting runs item body world A B told may is follows keeps sound c here = let (old, was, some) = follows c here in go old was (some_or_same body old c some)
  where
    go : (old : List ℕ) → A old → SameRecords old c ⊎ Appends (body ∷ []) old c → IsSound world c
    go old was (inl same) = same_sound world old c same (sound old was)
    go old was (inr appends) =
        let by_runs : IsSoundBy setting runs world = sound_by_told setting runs world old (told old was) (sound old was) in
        told_sound setting (add_record setting runs item) world c (append_tells setting runs item body old c (told old was) may is appends) (keeps old was by_runs)

pub declare_sound : (setting : Setting) (bytes body : List ℕ) (world : World) (A B : List ℕ → Type 0) → ((file : List ℕ) → A file → HasRecords [] file) → DeclaresSetting bytes setting → IsSpelled body (Record.Estate bytes) → Follows (AppendsSome (body ∷ [])) A B
    → IsSoundBy setting [] world → AreSound B world
declare_sound setting bytes body world A B empty declares is follows sound c here = let (old, was, some) = follows c here in go old was (some_or_same body old c some)
  where
    go : (old : List ℕ) → A old → SameRecords old c ⊎ Appends (body ∷ []) old c → IsSound world c
    go old was (inl same) = inl (same_has [] old c same (empty old was))
    go old was (inr appends) = told_sound setting [] world c (declare_tells setting bytes body old c (empty old was) declares is appends) sound
