-- What the calls of a journal mean together, for the layers above.
use Rattle.std.proofs.Common.{◌≡◌, ℕ, suc, ◌+◌, ◌≤◌, List, [], ◌∷◌, ◌++◌, length, take, false, true, is_some, Option, Some, None, refl, sym, ◌∙◌, ap, subst, arith, length-append, append_assoc}
use Rattle.std.proofs.lemmas.List.{append-nil, take_all, take-append-le}
use Rattle.std.proofs.lemmas.List.Sums.{sum_by-append, sum_by-cons}
use Rattle.dr_disk.specs.Disk.{Follows, NoOther}
use Rattle.dr_journal.specs.Reading.{form_1, journal_of}
use Rattle.dr_journal.specs.Reading.Reading.{Whole, DamagedAt}
use Rattle.dr_journal.specs.Kept.{SameRecords, Appends, AppendsSome, Have, BeginWith, Keeps}
use Rattle.dr_journal.specs.Places.{place_after, StandsAt, AreAt, IsNext}
use Rattle.dr_journal.specs.Walk.{ReaderState, IsAt, Moves}
use Rattle.dr_journal.specs.State.{JournalState, IsOpen}
use Rattle.dr_journal.proofs.AppendedFile.{had}

pub whole_same : (xs ys : List (List ℕ)) → Whole xs ≡ Whole ys → xs ≡ ys
whole_same xs ys same = cc

-- a file isn't both whole and damaged
pub whole_not_damaged : (file : List ℕ) (bodies : List (List ℕ)) (place : ℕ) → journal_of file ≡ Whole bodies → journal_of file ≡ DamagedAt place → ⊥
whole_not_damaged file bodies place whole damaged = let both : Whole bodies ≡ DamagedAt place = sym whole ∙ damaged in cc

-- Opened journals.

-- each image of an open journal has its records
pub open_records : (journal : JournalState) (R : Option (List ℕ)) (I : List ℕ → Type 0) → IsOpen journal R I → (c : List ℕ) → I c → (bodies : List (List ℕ)) × (journal_of c ≡ Whole bodies)
open_records journal R I is_open c here =
    let known = is_open.trimmed c (is_open.one c here) in
    (known.0, had form_1 known.0 c known.1)

-- an open journal stays so where nothing is written
pub open_kept : (journal : JournalState) (reads0 reads1 : Option (List ℕ)) (I0 I1 : List ℕ → Type 0) → IsOpen journal reads0 I0 → reads1 ≡ reads0 → NoOther I0 I1 → IsOpen journal reads1 I1
open_kept journal reads0 reads1 I0 I1 is_open same others = record {
  one = λ file here. same ∙ is_open.one file (others file here);
  trimmed = λ file reads. is_open.trimmed file (sym same ∙ reads);
  ends = λ file reads. is_open.ends file (sym same ∙ reads);
}

-- a file that was opened, and is read with the same records, was whole
pub whole_where_open : (journal : JournalState) (reads0 reads1 : Option (List ℕ)) (I : List ℕ → Type 0) → IsOpen journal reads1 I → is_some reads1 ≡ is_some reads0
    → ((old : List ℕ) → reads0 ≡ Some old → (new : List ℕ) → reads1 ≡ Some new → SameRecords old new)
    → (old : List ℕ) → reads0 ≡ Some old → (bodies : List (List ℕ)) × (journal_of old ≡ Whole bodies)
whole_where_open journal reads0 None I is_open tells same old reads = let none : false ≡ true = tells ∙ ap is_some reads in cc
whole_where_open journal reads0 (Some new) I is_open tells same old reads =
    let known = is_open.trimmed new refl in
    (known.0, sym (same old reads new refl) ∙ had form_1 known.0 new known.1)

-- Steps one after another.

pub same_more : (A B C : List ℕ → Type 0) → Follows SameRecords A B → Follows SameRecords B C → Follows SameRecords A C
same_more A B C first second c here =
    let two = second c here in
    let one = first two.0 two.1 in
    (one.0, one.1, two.2 ∙ one.2)

pub appends_none : (journal : JournalState) (R : Option (List ℕ)) (I : List ℕ → Type 0) → IsOpen journal R I → Follows (Appends []) I I
appends_none journal R I is_open c here =
    let known = open_records journal R I is_open c here in
    (c, here, record { bodies = known.0; had = known.1; has = known.1 ∙ ap Whole (sym (append-nil known.0)) })

appends_both : (xs ys : List (List ℕ)) (a b c : List ℕ) → Appends xs a b → Appends ys b c → Appends (xs ++ ys) a c
appends_both xs ys a b c one two = record {
  bodies = one.bodies;
  had = one.had;
  has = two.has ∙ ap (λ (l : List (List ℕ)). Whole (l ++ ys)) (whole_same two.bodies (one.bodies ++ xs) (sym two.had ∙ one.has)) ∙ ap Whole (append_assoc one.bodies xs ys);
}

appends_after : (xs : List (List ℕ)) (a b c : List ℕ) → SameRecords a b → Appends xs b c → Appends xs a c
appends_after xs a b c same appends = record { bodies = appends.bodies; had = sym same ∙ appends.had; has = appends.has }

appends_before : (xs : List (List ℕ)) (a b c : List ℕ) → Appends xs a b → SameRecords b c → Appends xs a c
appends_before xs a b c appends same = record { bodies = appends.bodies; had = appends.had; has = same ∙ appends.has }

pub appends_more : (xs ys : List (List ℕ)) (A B C : List ℕ → Type 0) → Follows (Appends xs) A B → Follows (Appends ys) B C → Follows (Appends (xs ++ ys)) A C
appends_more xs ys A B C first second c here =
    let two = second c here in
    let one = first two.0 two.1 in
    (one.0, one.1, appends_both xs ys one.0 two.0 c one.2 two.2)

pub appends_after_same : (xs : List (List ℕ)) (A B C : List ℕ → Type 0) → Follows SameRecords A B → Follows (Appends xs) B C → Follows (Appends xs) A C
appends_after_same xs A B C same appends c here =
    let two = appends c here in
    let one = same two.0 two.1 in
    (one.0, one.1, appends_after xs one.0 two.0 c one.2 two.2)

pub same_after_appends : (xs : List (List ℕ)) (A B C : List ℕ → Type 0) → Follows (Appends xs) A B → Follows SameRecords B C → Follows (Appends xs) A C
same_after_appends xs A B C appends same c here =
    let two = same c here in
    let one = appends two.0 two.1 in
    (one.0, one.1, appends_before xs one.0 two.0 c one.2 two.2)

take_past : (xs ys : List (List ℕ)) (n : ℕ) → take (length xs + n) (xs ++ ys) ≡ xs ++ take n ys
take_past [] ys n = let none : 0 + n ≡ n = omega arith in ap (λ (k : ℕ). take k ys) none
take_past (x ∷ xs) ys n =
    let next : length (x ∷ xs) + n ≡ suc (length xs + n) = omega arith in
    ap (λ (k : ℕ). take k (x ∷ xs ++ ys)) next ∙ ap (λ (l : List (List ℕ)). x ∷ l) (take_past xs ys n)

pub some_more : (xs ys : List (List ℕ)) (A B C : List ℕ → Type 0) → Follows (Appends xs) A B → Follows (AppendsSome ys) B C → Follows (AppendsSome (xs ++ ys)) A C
some_more xs ys A B C first second c here =
    let two = second c here in
    let one = first two.0 two.1 in
    let both = appends_both xs (take two.2.count ys) one.0 two.0 c one.2 two.2.appends in (
      one.0,
      one.1,
      record {
        count = length xs + two.2.count;
        within = omega (arith, length-append xs ys, two.2.within);
        appends = subst (λ (l : List (List ℕ)). Appends l one.0 c) (sym (take_past xs ys two.2.count)) both;
      },
    )

-- some of the first are some of all
pub some_of : (xs ys : List (List ℕ)) (A B : List ℕ → Type 0) → Follows (AppendsSome xs) A B → Follows (AppendsSome (xs ++ ys)) A B
some_of xs ys A B first c here =
    let one = first c here in
    let more = one.2 in (
      one.0,
      one.1,
      record {
        count = more.count;
        within = omega (arith, length-append xs ys, more.within);
        appends = subst (λ (l : List (List ℕ)). Appends l one.0 c) (sym (take-append-le more.count xs ys more.within)) more.appends;
      },
    )

pub some_of_all : (xs : List (List ℕ)) (A B : List ℕ → Type 0) → Follows (Appends xs) A B → Follows (AppendsSome xs) A B
some_of_all xs A B all c here =
    let one = all c here in
    (one.0, one.1, record { count = length xs; within = omega arith; appends = subst (λ (l : List (List ℕ)). Appends l one.0 c) (sym (take_all (length xs) xs (omega arith))) one.2 })

pub some_after_same : (xs : List (List ℕ)) (A B C : List ℕ → Type 0) → Follows SameRecords A B → Follows (AppendsSome xs) B C → Follows (AppendsSome xs) A C
some_after_same xs A B C same some c here =
    let two = some c here in
    let one = same two.0 two.1 in
    (one.0, one.1, record { count = two.2.count; within = two.2.within; appends = appends_after (take two.2.count xs) one.0 two.0 c one.2 two.2.appends })

pub same_after_some : (xs : List (List ℕ)) (A B C : List ℕ → Type 0) → Follows (AppendsSome xs) A B → Follows SameRecords B C → Follows (AppendsSome xs) A C
same_after_some xs A B C some same c here =
    let two = same c here in
    let one = some two.0 two.1 in
    (one.0, one.1, record { count = one.2.count; within = one.2.within; appends = appends_before (take one.2.count xs) one.0 two.0 c one.2.appends two.2 })

-- What the records begin with stays their beginning.

pub keeps_more : (A B C : List ℕ → Type 0) → Keeps A B → Keeps B C → Keeps A C
keeps_more A B C first second kept begins = second kept (first kept begins)

pub keeps_same : (A B : List ℕ → Type 0) → Follows SameRecords A B → Keeps A B
keeps_same A B same kept begins c here =
    let one = same c here in
    let was = begins one.0 one.1 in
    (was.0, one.2 ∙ was.1)

pub keeps_some : (xs : List (List ℕ)) (A B : List ℕ → Type 0) → Follows (AppendsSome xs) A B → Keeps A B
keeps_some xs A B some kept begins c here =
    let one = some c here in
    let was = begins one.0 one.1 in
    let more = take one.2.count xs in
    let had = one.2.appends in
    (was.0 ++ more, had.has ∙ ap (λ (l : List (List ℕ)). Whole (l ++ more)) (whole_same had.bodies (kept ++ was.0) (sym had.had ∙ was.1)) ∙ ap Whole (append_assoc kept was.0 more))

-- what all images have, they begin with
pub begin_with : (bodies : List (List ℕ)) (A : List ℕ → Type 0) → Have A bodies → BeginWith A bodies
begin_with bodies A have c here = ([], have c here ∙ ap Whole (sym (append-nil bodies)))

pub have_same : (bodies : List (List ℕ)) (A B : List ℕ → Type 0) → Have A bodies → Follows SameRecords A B → Have B bodies
have_same bodies A B have same c here =
    let one = same c here in
    one.2 ∙ have one.0 one.1

pub have_after : (bodies more : List (List ℕ)) (A B : List ℕ → Type 0) → Have A bodies → Follows (Appends more) A B → Have B (bodies ++ more)
have_after bodies more A B have all c here =
    let one = all c here in
    one.2.has ∙ ap (λ (l : List (List ℕ)). Whole (l ++ more)) (whole_same one.2.bodies bodies (sym one.2.had ∙ have one.0 one.1))

-- Soundness of any kind: of a file, or of the records of a file.

-- a step that leaves a sound file sound leaves all images sound
pub all_after : (Sound : List ℕ → Type 0) (step : List ℕ → List ℕ → Type 0) (A B : List ℕ → Type 0) → ((old new : List ℕ) → step old new → Sound old → Sound new)
    → Follows step A B → ((c : List ℕ) → A c → Sound c) → (c : List ℕ) → B c → Sound c
all_after Sound step A B law follows sound c here =
    let one = follows c here in
    law one.0 c one.2 (sound one.0 one.1)

-- the file is whole, and its records are sound
pub record SoundFile (Sound : List (List ℕ) → Type 0) (file : List ℕ) : Type 0 where
  pub bodies : List (List ℕ)
  pub whole : journal_of file ≡ Whole bodies
  pub sound : Sound bodies

pub sound_same : (Sound : List (List ℕ) → Type 0) (A B : List ℕ → Type 0) → Follows SameRecords A B → ((c : List ℕ) → A c → SoundFile Sound c) → (c : List ℕ) → B c → SoundFile Sound c
sound_same Sound A B = all_after (SoundFile Sound) SameRecords A B (λ old new same sound. record { bodies = sound.bodies; whole = same ∙ sound.whole; sound = sound.sound })

-- more records leave sound ones sound if each front of the new ones does
pub sound_some : (Sound : List (List ℕ) → Type 0) (xs : List (List ℕ)) (A B : List ℕ → Type 0) → ((bodies : List (List ℕ)) (count : ℕ) → count ≤ length xs → Sound bodies → Sound (bodies ++ take count xs))
    → Follows (AppendsSome xs) A B → ((c : List ℕ) → A c → SoundFile Sound c) → (c : List ℕ) → B c → SoundFile Sound c
sound_some Sound xs A B law =
    all_after (SoundFile Sound) (AppendsSome xs) A B (λ old new some sound. record {
      bodies = some.appends.bodies ++ take some.count xs;
      whole = some.appends.has;
      sound = law some.appends.bodies some.count some.within (subst Sound (whole_same sound.bodies some.appends.bodies (sym sound.whole ∙ some.appends.had)) sound.sound);
    })

-- Reading record after record.

pub place_after-push : (bodies : List (List ℕ)) (body : List ℕ) → place_after (bodies ++ body ∷ []) ≡ place_after bodies + (5 + length body)
place_after-push bodies body = omega (arith, sum_by-append (λ b. 5 + length b) bodies (body ∷ []), sum_by-cons (λ b. 5 + length b) body [])

-- the first gate
pub stands_first : (file : List ℕ) (bodies : List (List ℕ)) → journal_of file ≡ Whole bodies → StandsAt file 16
stands_first file bodies whole = ([], bodies, whole, refl)

-- behind a record stands the next gate
pub next_record : (file : List ℕ) (before after : List (List ℕ)) (body : List ℕ) (at : ℕ) → journal_of file ≡ Whole (before ++ after) → at ≡ place_after before → IsNext file at (Some body)
    → (more : List (List ℕ)) × (journal_of file ≡ Whole ((before ++ body ∷ []) ++ more)) × (at + (5 + length body) ≡ place_after (before ++ body ∷ []))
next_record file before [] body at whole is_at next = let none : Some body ≡ None = next before [] whole is_at in cc
next_record file before (first ∷ more) body at whole is_at next =
    let some : Some body ≡ Some first = next before (first ∷ more) whole is_at in
    let same : first ≡ body = cc in (
      more,
      whole ∙ ap (λ (b : List ℕ). Whole (before ++ b ∷ more)) same ∙ ap Whole (sym (append_assoc before (body ∷ []) more)),
      omega (arith, place_after-push before body),
    )

-- at the closing gate all records are behind
pub no_record : (file : List ℕ) (before after : List (List ℕ)) (at : ℕ) → journal_of file ≡ Whole (before ++ after) → at ≡ place_after before → IsNext file at None → journal_of file ≡ Whole before
no_record file before [] at whole is_at next = whole ∙ ap Whole (append-nil before)
no_record file before (first ∷ more) at whole is_at next = let none : None ≡ Some first = next before (first ∷ more) whole is_at in cc

-- Walking over the records with a reader.

-- a new reader of an opened journal has all records in front of it
pub reader_begins : (journal : JournalState) (reads : Option (List ℕ)) (images : List ℕ → Type 0) (reader : ReaderState) → IsOpen journal reads images
    → reader ≡ record { file_length = journal.file_length; place = 16; body = []; next_place = 16; window_place = 16; window = [] } → (file : List ℕ) → reads ≡ Some file → (bodies : List (List ℕ)) × IsAt reader file [] bodies
reader_begins journal reads images reader is_open is file here =
    let known = is_open.trimmed file here in (
      known.0,
      record {
        trimmed = known.1;
        ends = is_open.ends file here ∙ sym (ap (λ (r : ReaderState). r.file_length) is);
        place = ap (λ (r : ReaderState). r.next_place) is;
        shows = subst (λ (r : ReaderState). AreAt file r.window_place r.window) (sym is) refl;
      },
    )

-- the records behind a reader and in front of it are those of the file
pub reader_records : (reader : ReaderState) (file : List ℕ) (before after : List (List ℕ)) → IsAt reader file before after → journal_of file ≡ Whole (before ++ after)
reader_records reader file before after is_at = had form_1 (before ++ after) file is_at.trimmed

-- a reader that found no record has all of them behind it
pub reader_ends : (reader : ReaderState) (file : List ℕ) (before after : List (List ℕ)) → Moves file before after false reader → journal_of file ≡ Whole before
reader_ends reader file before [] moved = reader_records reader file before [] moved.1 ∙ ap Whole (append-nil before)
reader_ends reader file before (body ∷ after) moved = let no : false ≡ true = moved.0 in cc

-- a reader that went on to a record has that one behind it
pub reader_moves : (reader : ReaderState) (file : List ℕ) (before after : List (List ℕ)) → Moves file before after true reader → (more : List (List ℕ)) × IsAt reader file (before ++ reader.body ∷ []) more
reader_moves reader file before [] moved = let no : true ≡ false = moved.0 in cc
reader_moves reader file before (body ∷ after) moved = (after, subst (λ (b : List ℕ). IsAt reader file (before ++ b ∷ []) after) (sym moved.1) moved.2)
