-- The marks of two lines with a failed append between, by hand, and marks that no call has.
use Rattle.std.specs.Prelude.{◌≡◌, ℕ, ◌⊎◌, List, [], ◌∷◌, ◌++◌, length, Some, None}
use Rattle.std.proofs.Common.{refl, sym, ap, subst, inl, inr, arith}
use Rattle.std.proofs.lemmas.List.{length-append}
use Rattle.dr_base.specs.declared.answer.Answer.{Answer}
use Rattle.dr_base.specs.declared.estate_fault.EstateFault.{EstateFault}
use Rattle.dr_base.specs.declared.estate_fault.Limit.{Limit}
use Rattle.dr_meaning.specs.Types.{Record}
use Rattle.dr_meaning.specs.Journals.{HasRecords}
use Rattle.dr_meaning.specs.Images.{BeginWith, AreKeptAtMost, HaveOneMoreAtMost}
use Rattle.dr_meaning.specs.Marks.{MarkedLine, TellsOpened, HasMarks}
use Rattle.dr_model.proofs.FileLaws.{one_records}

-- What an answer tells -----------------------------------------------------------------------------------------------

-- the number of an estate's bytes is asked before the journal is opened, the number of its machines behind it
pub bytes_first : TellsOpened (Answer.Estate (EstateFault.Limit Limit.Bytes 4194305)) None
bytes_first = refl

pub machines_behind : TellsOpened (Answer.Estate (EstateFault.Limit Limit.Machines 2001)) None → ⊥
machines_behind t = cc

pub no_bytes_behind : TellsOpened (Answer.Estate (EstateFault.Limit Limit.Bytes 4194305)) (Some 1) → ⊥
no_bytes_behind t = cc

-- no damaged journal is opened, and no run is done, waits, fails or is refused without one
pub no_damaged_opened : TellsOpened (Answer.JournalDamaged 16) (Some 1) → ⊥
no_damaged_opened t = cc

pub no_words_opened : (TellsOpened (Answer.BadWords 0) (Some 1) → ⊥) × (TellsOpened Answer.ReadFault (Some 1) → ⊥)
no_words_opened = (λ t. cc, λ t. cc)

pub none_unopened : (TellsOpened (Answer.Done 1) None → ⊥) × (TellsOpened Answer.Loaded None → ⊥) × (TellsOpened Answer.Shown None → ⊥) × (TellsOpened (Answer.Waiting 1 1) None → ⊥) × (TellsOpened (Answer.PortFault 0) None → ⊥)
none_unopened = (λ t. cc, λ t. cc, λ t. cc, λ t. cc, λ t. cc)

-- a failed write is no line's answer
pub no_write_fault : (TellsOpened Answer.WriteFault None → ⊥) × (TellsOpened Answer.WriteFault (Some 1) → ⊥)
no_write_fault = (λ t. t, λ t. t)

-- Two lines -------------------------------------------------------------------------------------------------------------

-- the disk has an image of one record at entry; a line's append of another one failed, and left it or not; the next line found it
module _ (x y : Record) (a b : List ℕ) (has_a : HasRecords (x ∷ []) a) (has_b : HasRecords (x ∷ y ∷ []) b) where
  abbrev entry : List ℕ → Type 0
  entry file = file ≡ a

  abbrev between : List ℕ → Type 0
  between file = (file ≡ a) ⊎ (file ≡ b)

  abbrev found : List ℕ → Type 0
  found file = file ≡ b

  begin_between : BeginWith between (x ∷ [])
  begin_between file here = elim here [
    | inl is ↦ ([], subst (HasRecords (x ∷ [])) (sym is) has_a)
    | inr is ↦ (y ∷ [], subst (HasRecords (x ∷ y ∷ [])) (sym is) has_b)
  ]

  -- kept lists are no longer than an image's records
  no_longer : (images : List ℕ → Type 0) (file : List ℕ) (all : List Record) → images file → HasRecords all file → AreKeptAtMost images (length all)
  no_longer images file all here has records kept =
      let (rest, more) = kept file here in
      let same = ap (λ (l : List Record). length l) (one_records file (records ++ rest) all more has) in
      let sum = length-append records rest in
      omega (arith, same, sum)

  differ_by_one : HaveOneMoreAtMost between (x ∷ [])
  differ_by_one file here = elim here [
    | inl is ↦ ([], omega arith, subst (HasRecords (x ∷ [])) (sym is) has_a)
    | inr is ↦ (y ∷ [], omega arith, subst (HasRecords (x ∷ y ∷ [])) (sym is) has_b)
  ]

  -- but not of no record
  no_two_more : HaveOneMoreAtMost between [] → ⊥
  no_two_more one =
      let (last, short, has) = one b (inr refl) in
      let same = ap (λ (l : List Record). length l) (one_records b last (x ∷ y ∷ []) has has_b) in
      omega (arith, short, same)

  abbrev failed : MarkedLine
  failed = record { answer = Answer.JournalFault; found = Some 1; mark = 1 }

  abbrev finding : ℕ → MarkedLine
  finding mark = record { answer = Answer.NoMemory; found = Some 2; mark = mark }

  failed_line : HasMarks entry between 0 1 0 (failed ∷ [])
  failed_line = record {
    each_from = (omega arith, tt);
    each = (record { opened = tt; at_most = record { records = x ∷ []; kept = begin_between; count = refl }; cause = λ e. omega arith }, tt);
    told = λ file here. record { rising = (omega arith, tt); at_least = ((λ some. no_longer entry a (x ∷ []) refl has_a), tt); last = λ other. absurd (other refl) };
  }

  finding_line : HasMarks between found 1 1 1 (finding 2 ∷ [])
  finding_line = record {
    each_from = (omega arith, tt);
    each = (record { opened = tt; at_most = record { records = x ∷ y ∷ []; kept = λ file is. ([], subst (HasRecords (x ∷ y ∷ [])) (sym is) has_b); count = refl }; cause = λ e. absurd cc }, tt);
    told = λ file here. record { rising = (omega arith, tt); at_least = ((λ some records kept. let le = no_longer between a (x ∷ []) (inl refl) has_a records kept in omega (arith, le)), tt); last = λ other some. no_longer found b (x ∷ y ∷ []) refl has_b };
  }

  -- and of both as one
  both_lines : HasMarks entry found 0 1 0 (failed ∷ finding 2 ∷ [])
  both_lines = record {
    each_from = (omega arith, (omega arith, tt));
    each = (record { opened = tt; at_most = record { records = x ∷ []; kept = λ file is. (y ∷ [], subst (HasRecords (x ∷ y ∷ [])) (sym is) has_b); count = refl }; cause = λ e. omega arith }, (record { opened = tt; at_most = record { records = x ∷ y ∷ []; kept = λ file is. ([], subst (HasRecords (x ∷ y ∷ [])) (sym is) has_b); count = refl }; cause = λ e. absurd cc }, tt));
    told = λ file here. record {
      rising = (omega arith, (omega arith, tt));
      at_least = ((λ some. no_longer entry a (x ∷ []) refl has_a), ((λ some records kept. let le = no_longer entry a (x ∷ []) refl has_a records kept in omega (arith, le)), tt));
      last = λ other some. no_longer found b (x ∷ y ∷ []) refl has_b;
    };
  }

  -- Marks that no call has -----------------------------------------------------------------------------------------------

  -- one more than what is sure to be kept
  no_mark_of_two : HasMarks entry between 0 1 0 (record failed { mark = 2 } ∷ []) → ⊥
  no_mark_of_two m =
      let kept = m.each.0.at_most in
      let le = no_longer between a (x ∷ []) (inl refl) has_a kept.records kept.kept in
      let two = kept.count in
      omega (arith, le, two)

  -- less than what was found
  no_mark_below : (n : ℕ) → HasMarks between found n 1 0 (finding 1 ∷ []) → ⊥
  no_mark_below n m = let le = m.each_from.0 in omega (arith, le)

  -- less than what was kept at entry, or than all that is kept at the end
  no_mark_of_none : HasMarks entry entry 0 1 0 (record { answer = Answer.JournalFault; found = Some 0; mark = 0 } ∷ []) → ⊥
  no_mark_of_none m =
      let le = (m.told a refl).at_least.0 refl (x ∷ []) (λ file is. ([], subst (HasRecords (x ∷ [])) (sym is) has_a)) in
      omega (arith, le)

  no_mark_of_one : HasMarks entry found 0 1 0 (record { answer = Answer.Shown; found = Some 1; mark = 1 } ∷ []) → ⊥
  no_mark_of_one m =
      let le = (m.told b refl).last (λ e. cc) refl (x ∷ y ∷ []) (λ file is. ([], subst (HasRecords (x ∷ y ∷ [])) (sym is) has_b)) in
      omega (arith, le)

  -- other than the mark before it, where the journal wasn't opened
  no_mark_of_its_own : HasMarks entry entry 0 1 0 (record { answer = Answer.BadWords 0; found = None; mark = 1 } ∷ []) → ⊥
  no_mark_of_its_own m = let e = m.each_from.0 in omega (arith, e)

  -- that falls, on a disk that tells its bytes
  no_fall : HasMarks entry entry 0 1 2 (record { answer = Answer.Shown; found = Some 1; mark = 1 } ∷ []) → ⊥
  no_fall m = let le = (m.told a refl).rising.0 in omega (arith, le)

  -- or of a journal's fault without a cause
  no_fault_without_cause : HasMarks entry between 0 0 0 (failed ∷ []) → ⊥
  no_fault_without_cause m = let rose = m.each.0.cause refl in omega (arith, rose)
