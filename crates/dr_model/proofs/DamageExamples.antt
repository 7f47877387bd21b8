-- Files that are no lawful journal, by hand.
use Rattle.std.specs.Prelude.{◌≡◌, ℕ, suc, List, [], ◌∷◌, ◌++◌, length}
use Rattle.std.proofs.Common.{refl, sym, ap, ◌∙◌, subst, inl, inr, arith}
use Rattle.std.proofs.lemmas.List.{length-append}
use Rattle.dr_records.specs.Spelling.{IsRecord, spelling}
use Rattle.dr_records.proofs.Whole.{one_record}
use Rattle.dr_journal.specs.Reading.{journal_of}
use Rattle.dr_journal.specs.Reading.Reading.{Whole, DamagedAt}
use Rattle.dr_journal.proofs.Laws.{whole_same}
use Rattle.dr_meaning.specs.Types.{Record}
use Rattle.dr_meaning.specs.Runs.{Setting}
use Rattle.dr_meaning.specs.Journals.{DeclaresSetting, AreSpelled, AreLawful, MayFollow, IsUnlawfulAt, IsDamagedAt}
use Rattle.dr_model.proofs.FileLaws.{declare_stands}

-- Files that are no journal --------------------------------------------------------------------------------------------------

-- a first record that is no Estate is unlawful, at its gate
pub no_begin_first : MayFollow [] (spelling (Record.Begin 1 1)) → ⊥
no_begin_first m = go m.lawful
  where
    is : Record.Begin 1 1 ≡ m.item
    is = one_record (Record.Begin 1 1) m.item (omega arith, omega arith) m.spelled.is_record (sym m.spelled.spelled)

    go : AreLawful (m.item ∷ []) → ⊥
    go (inl e) = cc
    go (inr l) = let wrong : Record.Begin 1 1 ∷ [] ≡ Record.Estate l.2.bytes ∷ l.2.rest = ap (λ x. x ∷ []) is ∙ l.2.are in cc

pub unlawful_first : (file : List ℕ) → journal_of file ≡ Whole (spelling (Record.Begin 1 1) ∷ []) → IsUnlawfulAt 16 file
unlawful_first file whole = record {
  before = [];
  body = spelling (Record.Begin 1 1);
  behind = [];
  whole = whole;
  records = [];
  spelled = tt;
  lawful = inl refl;
  unlawful = no_begin_first;
  is_at = refl;
}

-- an Estate may be first
pub estate_first : (st : Setting) (bytes : List ℕ) → IsRecord (Record.Estate bytes) → DeclaresSetting bytes st → MayFollow [] (spelling (Record.Estate bytes))
estate_first st bytes is declares = record { item = Record.Estate bytes; spelled = record { is_record = is; spelled = refl }; lawful = inr (st, [], declare_stands st bytes declares) }

-- and a journal of it alone is damaged nowhere
pub lawful_alone : (st : Setting) (bytes file : List ℕ) → IsRecord (Record.Estate bytes) → DeclaresSetting bytes st → journal_of file ≡ Whole (spelling (Record.Estate bytes) ∷ []) → (place : ℕ) → IsDamagedAt place file → ⊥
lawful_alone st bytes file is declares whole place (inl damaged) = let wrong : Whole (spelling (Record.Estate bytes) ∷ []) ≡ DamagedAt place = sym whole ∙ damaged in cc
lawful_alone st bytes file is declares whole place (inr it) = go (it.before) it.spelled it.unlawful (whole_same (spelling (Record.Estate bytes) ∷ []) (it.before ++ it.body ∷ it.behind) (sym whole ∙ it.whole))
  where
    go : (before : List (List ℕ)) → AreSpelled before it.records → ¬ MayFollow it.records it.body → spelling (Record.Estate bytes) ∷ [] ≡ before ++ it.body ∷ it.behind → ⊥
    go [] spelled unlawful same = none it.records spelled unlawful
      where
        none : (records : List Record) → AreSpelled [] records → ¬ MayFollow records it.body → ⊥
        none [] spelled unlawful = let head : spelling (Record.Estate bytes) ≡ it.body = cc in unlawful (subst (MayFollow []) head (estate_first st bytes is declares))
        none (x ∷ records) spelled unlawful = spelled
    go (x ∷ before) spelled unlawful same =
        let sum : 1 ≡ suc (length (before ++ it.body ∷ it.behind)) = ap (λ (l : List (List ℕ)). length l) same in
        let parts = length-append before (it.body ∷ it.behind) in
        omega (arith, sum, parts)
