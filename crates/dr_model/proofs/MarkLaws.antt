-- The marks of one line, and of lines in a row.
use Rattle.std.specs.Prelude.{◌≡◌, ◌≢◌, ℕ, ◌≤◌, ◌+◌, ◌⊎◌, List, [], ◌∷◌, ◌++◌, Some, None, length}
use Rattle.std.specs.List.{AllByRecursion}
use Rattle.std.proofs.Common.{refl, sym, ap, ◌∙◌, inl, inr, arith}
use Rattle.std.proofs.lemmas.List.{length-append}
use Rattle.dr_disk.specs.Disk.{Follows}
use Rattle.dr_journal.specs.Kept.{SameRecords, AppendsSome}
use Rattle.dr_base.specs.Causes.{Rose}
use Rattle.dr_base.specs.declared.answer.Answer.{Answer}
use Rattle.dr_meaning.specs.Types.{Record}
use Rattle.dr_meaning.specs.Worlds.{World}
use Rattle.dr_meaning.specs.Journals.{HasRecords}
use Rattle.dr_meaning.specs.Sound.{AreSound, IsSound}
use Rattle.dr_meaning.specs.Images.{BeginWith, Keeps, AreKeptSome, AreKeptAtMost}
use Rattle.dr_meaning.specs.Since.{Rests, Comes, Since}
use Rattle.dr_meaning.specs.Marks.{MarkedLine, TellsOpened, MarksFrom, last_mark, FitsLine, NeverFall, HasKept, LastHasAll, HasMarks}
use Rattle.dr_model.proofs.FileLaws.{one_records, same_has}
use Rattle.dr_model.proofs.SinceKept.{since_keeps}

-- What is kept ------------------------------------------------------------------------------------------------------

-- what was kept is kept
some_stays : (old new : List ℕ → Type 0) (n : ℕ) → Keeps old new → AreKeptSome old n → AreKeptSome new n
some_stays old new n keeps k = record { records = k.records; kept = keeps k.records k.kept; count = k.count }

-- an image at the end comes from one at entry
image_before : (old_images new_images : List ℕ → Type 0) (old new : World) (added : List Record) → Since old_images old added new_images new → (file : List ℕ) → new_images file → (was : List ℕ) × old_images was
image_before old_images new_images old new added s file here = go (s.comes file here)
  where
    go : Rests old_images old new added file ⊎ Comes old_images new_images old new added file → (was : List ℕ) × old_images was
    go (inl r) = (r.entry, r.was)
    go (inr c) = (c.entry, c.was)

-- a kept list is no longer than the records of an image
at_most_has : (images : List ℕ → Type 0) (file : List ℕ) (has : List Record) → images file → HasRecords has file → AreKeptAtMost images (length has)
at_most_has images file has here its records kept =
    let (rest, all) = kept file here in
    let same : records ++ rest ≡ has = one_records file (records ++ rest) has all its in
    let sum : length records + length rest ≡ length has = sym (length-append records rest) ∙ ap (λ (l : List Record). length l) same in
    omega (arith, sum)

pub nothing_kept : (images : List ℕ → Type 0) (world : World) → AreSound images world → AreKeptSome images 0
nothing_kept images world sound = record { records = []; kept = λ file here. go file (sound file here); count = refl }
  where
    go : (file : List ℕ) → IsSound world file → (more : List Record) × HasRecords more file
    go file (inl empty) = ([], empty)
    go file (inr s) = (s.tells.records, s.tells.has)

-- One line ------------------------------------------------------------------------------------------------------------

pub marks_none : (old_images new_images : List ℕ → Type 0) (old_count new_count before : ℕ) → HasMarks old_images new_images old_count new_count before []
marks_none old_images new_images old_count new_count before = record { each_from = tt; each = tt; told = λ file here. record { rising = tt; at_least = tt; last = tt } }

pub marks_unopened : (old_images new_images : List ℕ → Type 0) (old new : World) (added : List Record) (old_count new_count before : ℕ) (answer : Answer) → Since old_images old added new_images new → AreKeptSome old_images before →
    TellsOpened answer None → (answer ≡ Answer.JournalFault → Rose old_count new_count) → HasMarks old_images new_images old_count new_count before (record { answer = answer; found = None; mark = before } ∷ [])
marks_unopened old_images new_images old new added old_count new_count before answer s kept opened cause = record {
  each_from = (refl, tt);
  each = (record { opened = opened; at_most = some_stays old_images new_images before (since_keeps old_images new_images old new added s) kept; cause = cause }, tt);
  told = λ file here. record { rising = (omega arith, tt); at_least = ((λ some. absurd cc), tt); last = λ other some. absurd cc };
}

pub marks_opened : (entry opened exit : List ℕ → Type 0) (had more : List Record) (bodies : List (List ℕ)) (old_count new_count before : ℕ) (answer : Answer) →
    Follows SameRecords entry opened → ((file : List ℕ) → opened file → HasRecords had file) → Follows (AppendsSome bodies) opened exit → BeginWith exit (had ++ more) →
    (answer ≢ Answer.JournalFault → (file : List ℕ) → exit file → HasRecords (had ++ more) file) → AreKeptSome entry before → TellsOpened answer (Some (length had)) → (answer ≡ Answer.JournalFault → Rose old_count new_count) →
    HasMarks entry exit old_count new_count before (record { answer = answer; found = Some (length had); mark = length (had ++ more) } ∷ [])
marks_opened entry opened exit had more bodies old_count new_count before answer opens all appends kept exact was tells cause = record {
  each_from = (omega (arith, long), tt);
  each = (record { opened = tells; at_most = record { records = had ++ more; kept = kept; count = refl }; cause = cause }, tt);
  told = λ file here. record {
    rising = ((let le = found_at_least file here was.records was.kept in let e = was.count in omega (arith, le, e, long)), tt);
    at_least = ((λ some records k. let le = found_at_least file here records k in omega (arith, le, long)), tt);
    last = λ other some. at_most_has exit file (had ++ more) here (exact other file here);
  };
}
  where
    long : length (had ++ more) ≡ length had + length more
    long = length-append had more

    -- what was kept at entry was found
    found_at_least : (file : List ℕ) → exit file → AreKeptAtMost entry (length had)
    found_at_least file here =
        let (middle, there, some) = appends file here in
        let (first, was, same) = opens middle there in
        at_most_has entry first had was (same_has had middle first (sym same) (all middle there))

-- Lines in a row --------------------------------------------------------------------------------------------------------

from_both : (before : ℕ) (lines more : List MarkedLine) → MarksFrom before lines → MarksFrom (last_mark before lines) more → MarksFrom before (lines ++ more)
from_both before [] more a b = b
from_both before (line ∷ lines) more (first, a) b = (first, from_both line.mark lines more a b)

rising_both : (before : ℕ) (lines more : List MarkedLine) → NeverFall before lines → NeverFall (last_mark before lines) more → NeverFall before (lines ++ more)
rising_both before [] more a b = b
rising_both before (line ∷ lines) more (first, a) b = (first, rising_both line.mark lines more a b)

each_both : (P : MarkedLine → Type 0) (lines more : List MarkedLine) → AllByRecursion P lines → AllByRecursion P more → AllByRecursion P (lines ++ more)
each_both P [] more a b = b
each_both P (line ∷ lines) more (first, a) b = (first, each_both P lines more a b)

each_on : (P Q : MarkedLine → Type 0) → ((line : MarkedLine) → P line → Q line) → (lines : List MarkedLine) → AllByRecursion P lines → AllByRecursion Q lines
each_on P Q on [] a = tt
each_on P Q on (line ∷ lines) (first, a) = (on line first, each_on P Q on lines a)

last_behind : (images : List ℕ → Type 0) (lines : List MarkedLine) (next : MarkedLine) (rest : List MarkedLine) → LastHasAll images (next ∷ rest) → LastHasAll images (lines ++ next ∷ rest)
last_behind images [] next rest last = last
last_behind images (line ∷ []) next rest last = last
last_behind images (line ∷ second ∷ lines) next rest last = last_behind images (second ∷ lines) next rest last

module _ (A B C : List ℕ → Type 0) (old middle new : World) (added more : List Record) (s : Since A old added B middle) (t : Since B middle more C new) (old_count middle_count new_count : ℕ) (count_first : old_count ≤ middle_count) (count_second : middle_count ≤ new_count) where
  keeps_first : Keeps A B
  keeps_first = since_keeps A B old middle added s

  keeps_second : Keeps B C
  keeps_second = since_keeps B C middle new more t

  fits_first : (line : MarkedLine) → FitsLine B old_count middle_count line → FitsLine C old_count new_count line
  fits_first line f = record { opened = f.opened; at_most = some_stays B C line.mark keeps_second f.at_most; cause = λ e. let r = f.cause e in omega (arith, r, count_second) }

  fits_second : (line : MarkedLine) → FitsLine C middle_count new_count line → FitsLine C old_count new_count line
  fits_second line f = record { opened = f.opened; at_most = f.at_most; cause = λ e. let r = f.cause e in omega (arith, r, count_first) }

  kept_first : (line : MarkedLine) → HasKept B line → HasKept A line
  kept_first line has some records kept = has some records (keeps_first records kept)

  pub marks_both : (before : ℕ) (lines : List MarkedLine) (next : MarkedLine) (rest : List MarkedLine) → HasMarks A B old_count middle_count before lines → HasMarks B C middle_count new_count (last_mark before lines) (next ∷ rest) → HasMarks A C old_count new_count before (lines ++ next ∷ rest)
  marks_both before lines next rest m n = record {
    each_from = from_both before lines (next ∷ rest) m.each_from n.each_from;
    each = each_both (FitsLine C old_count new_count) lines (next ∷ rest) (each_on (FitsLine B old_count middle_count) (FitsLine C old_count new_count) fits_first lines m.each) (each_on (FitsLine C middle_count new_count) (FitsLine C old_count new_count) fits_second (next ∷ rest) n.each);
    told = λ file here.
        let (between, was) = image_before B C middle new more t file here in
        let a = m.told between was in
        let b = n.told file here in
        record {
          rising = rising_both before lines (next ∷ rest) a.rising b.rising;
          at_least = each_both (HasKept A) lines (next ∷ rest) a.at_least (each_on (HasKept B) (HasKept A) kept_first (next ∷ rest) b.at_least);
          last = last_behind C lines next rest b.last;
        };
  }

last_of : (images : List ℕ → Type 0) (old_count new_count before : ℕ) (lines : List MarkedLine) → AreKeptSome images before → AllByRecursion (FitsLine images old_count new_count) lines → AreKeptSome images (last_mark before lines)
last_of images old_count new_count before [] kept each = kept
last_of images old_count new_count before (line ∷ lines) kept (first, each) = last_of images old_count new_count line.mark lines first.at_most each

pub marks_last : (old_images new_images : List ℕ → Type 0) (old new : World) (added : List Record) (old_count new_count before : ℕ) (lines : List MarkedLine) → Since old_images old added new_images new → AreKeptSome old_images before → HasMarks old_images new_images old_count new_count before lines → AreKeptSome new_images (last_mark before lines)
marks_last old_images new_images old new added old_count new_count before lines s kept m = last_of new_images old_count new_count before lines (some_stays old_images new_images before (since_keeps old_images new_images old new added s) kept) m.each
