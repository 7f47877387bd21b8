-- Records that may come, one after another.
use Rattle.std.specs.Prelude.{IsTrue, Bool, true, false, ◌≡◌, ◌↔◌, ℕ, zero, suc, ◌+◌, ◌<◌, List, [], ◌∷◌, Option, Some, None, take, fold, length, slice_get, IsSomeAnd}
use Rattle.std.proofs.Common.{refl, subst, get_or}
use Rattle.std.proofs.lemmas.List.{take_more}
use Rattle.std.proofs.lemmas.List.Sums.{fold-append}
use Rattle.std.proofs.lemmas.Option.{slice_get-get_or}
use Rattle.dr_meaning.specs.Types.{Record, StartRow}
use Rattle.dr_meaning.specs.Runs.{Setting, Run, add_record, runs_of}
use Rattle.dr_meaning.specs.Lawful.{MayCome, LawfulAfter}
use Rattle.dr_meaning.proofs.AppendLaws.{LawfulAfter-append}
use Rattle.dr_replay.specs.Replays.{IsFirstUnlawful}
use Rattle.dr_replay.specs.Following.{is_start}

-- the runs of one more record
pub runs_more : (setting : Setting) (records : List Record) (i : ℕ) (item : Record) (before after : List Run) → i < length records → item ≡ get_or records i item →
    before ≡ runs_of setting (take i records) → after ≡ add_record setting before item → after ≡ runs_of setting (take (i + 1) records)
runs_more setting records i item before after l is told e =
    rw (take_more records i item l, ← is, fold-append (add_record setting) [] (take i records) (item ∷ []), ← told) e

module _ (setting : Setting) (records : List Record) (i : ℕ) (item : Record) (runs : List Run) (may : Bool) where
  -- one more record that may come
  pub lawful_more : i < length records → item ≡ get_or records i item → LawfulAfter setting [] (take i records) → runs ≡ runs_of setting (take i records) →
      (IsTrue may ↔ MayCome setting runs item) → may ≡ true → LawfulAfter setting [] (take (i + 1) records)
  lawful_more l is before told h e =
      rw (take_more records i item l, ← is) (LawfulAfter-append setting [] (take i records) item before (rw (← told) (h.0 e)))

  -- one more that may not
  pub first_at : i < length records → item ≡ get_or records i item → LawfulAfter setting [] (take i records) → runs ≡ runs_of setting (take i records) →
      (IsTrue may ↔ MayCome setting runs item) → may ≡ false → IsFirstUnlawful setting records i
  first_at l is before told h e =
      let at : slice_get records i ≡ Some item = rw (slice_get-get_or records i item l, ← is) refl in
      record {
        before = before;
        unlawful = rw (at, ← told) (λ comes. let comes_too : may ≡ true = h.1 comes in absurd cc);
      }

-- each of the records may come after those before it
pub lawful_at : (setting : Setting) (runs : List Run) (records : List Record) (i : ℕ) (item : Record) → slice_get records i ≡ Some item →
    LawfulAfter setting runs records → MayCome setting (fold (add_record setting) runs (take i records)) item
lawful_at setting runs [] i item at lawful = absurd cc
lawful_at setting runs (x ∷ records) zero item at lawful = let same : x ≡ item = cc in subst (MayCome setting runs) same lawful.0
lawful_at setting runs (x ∷ records) (suc i) item at lawful = lawful_at setting (add_record setting runs x) records i item at lawful.1

-- where one may not come, not all may
pub first_not_lawful : (setting : Setting) (records : List Record) (i : ℕ) → IsFirstUnlawful setting records i → LawfulAfter setting [] records → ⊥
first_not_lawful setting records i first lawful = go (slice_get records i) refl first.unlawful
  where
    go : (item : Option Record) → slice_get records i ≡ item → IsSomeAnd item (λ item. ¬ (MayCome setting (runs_of setting (take i records)) item)) → ⊥
    go None at h = absurd h
    go (Some item) at h = h (lawful_at setting [] records i item at lawful)

-- a record that is no Start
pub not_start : (item : Record) → ((row : StartRow) → item ≡ Record.Start row → ⊥) → is_start item ≡ false
not_start (Record.Start row) h = absurd (h row refl)
not_start _ h = refl
