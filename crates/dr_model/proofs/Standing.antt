-- Of runs that stand in a journal: their plans are regular, each record's run is among them, and the first of the records make runs that stand too.
use Rattle.std.specs.Prelude.{◌≡◌, ◌⊎◌, List, [], ◌∷◌, ◌++◌, fold}
use Rattle.std.proofs.Common.{refl, sym, ap, ◌∙◌, inl, inr, subst, arith}
use Rattle.std.proofs.lemmas.List.Sums.{fold-append}
use Rattle.dr_meaning.specs.Types.{Record}
use Rattle.dr_meaning.specs.Runs.{Setting, Run, runs_of, add_record}
use Rattle.dr_meaning.specs.Lawful.{LawfulAfter}
use Rattle.dr_meaning.specs.Journals.{Stands}
use Rattle.dr_meaning.specs.Backing.{HasRegularPlans}
use Rattle.dr_meaning.proofs.Lists.{Each}
use Rattle.dr_model.proofs.Declared.{declared_regular}
use Rattle.dr_model.proofs.TableLaws.{IsTable, table-lawful}
use Rattle.dr_model.proofs.ChainLaws.{IsWellKept, kept-lawful}
use Rattle.dr_model.proofs.PostLaws.{empty_kept}
use Rattle.dr_model.proofs.Reversed.{IsKnown, known_lawful}

pub regular_of : (setting : Setting) (records : List Record) (runs : List Run) → Stands setting records runs → HasRegularPlans setting
regular_of setting records runs s = declared_regular s.bytes setting s.declares

pub table_of : (setting : Setting) (records : List Record) (runs : List Run) → Stands setting records runs → IsTable runs
table_of setting records runs s = rw s.runs_are (table-lawful setting [] s.rest s.lawful tt)

pub well_kept_of : (setting : Setting) (records : List Record) (runs : List Run) → Stands setting records runs → IsWellKept setting runs
well_kept_of setting records runs s = rw s.runs_are (kept-lawful setting [] s.rest s.lawful (empty_kept setting))

-- each record's run is among them
pub known_of : (setting : Setting) (records : List Record) (runs : List Run) → Stands setting records runs → Each (IsKnown runs) records
known_of setting records runs s =
    let known : Each (IsKnown (runs_of setting s.rest)) s.rest = known_lawful setting [] s.rest tt s.lawful in
    subst (Each (IsKnown runs)) (sym s.are) (omega arith, subst (λ l. Each (IsKnown l) s.rest) (sym s.runs_are) known)

-- The first of the records --------------------------------------------------------------------------------------

lawful_split : (setting : Setting) (runs : List Run) (xs ys : List Record) → LawfulAfter setting runs (xs ++ ys) → LawfulAfter setting runs xs × LawfulAfter setting (fold (add_record setting) runs xs) ys
lawful_split setting runs [] ys h = (tt, h)
lawful_split setting runs (x ∷ xs) ys h = let both = lawful_split setting (add_record setting runs x) xs ys h.1 in ((h.0, both.0), both.1)

-- the runs that stood before the last of these records, which came lawfully
pub record Before (setting : Setting) (records items : List Record) (runs : List Run) : Type 0 where
  pub before : List Run
  pub stand : Stands setting records before
  pub lawful : LawfulAfter setting before items
  pub are : runs ≡ fold (add_record setting) before items

pub before_of : (setting : Setting) (records items : List Record) (runs : List Run) → Stands setting (records ++ items) runs → (records ≡ []) ⊎ Before setting records items runs
before_of setting [] items runs s = inl refl
before_of setting (r ∷ rs) items runs s =
    let same : r ∷ (rs ++ items) ≡ Record.Estate s.bytes ∷ s.rest = s.are in
    let first : r ≡ Record.Estate s.bytes = cc in
    let rest : rs ++ items ≡ s.rest = cc in
    let split = lawful_split setting [] rs items (subst (LawfulAfter setting []) (sym rest) s.lawful) in
    inr (record {
      before = runs_of setting rs;
      stand = record { bytes = s.bytes; rest = rs; are = ap (λ x. x ∷ rs) first; declares = s.declares; lawful = split.0; runs_are = refl };
      lawful = split.1;
      are = s.runs_are ∙ ap (λ l. runs_of setting l) (sym rest) ∙ fold-append (add_record setting) [] rs items;
    })
