-- What each lawful record keeps of its run, each run of a lawful journal has.
use Rattle.std.specs.Prelude.{◌≡◌, ℕ, ◌==◌, Bool, true, false, ◌&&◌, List, [], ◌∷◌, Option, Some, None, IsSomeAnd, cond, map, fold, slice_get}
use Rattle.std.proofs.Common.{refl, sym, ap, ◌∙◌}
use Rattle.std.proofs.lemmas.Bool.{eqb-true}
use Rattle.dr_meaning.specs.Types.{StartRow, Plan, Record}
use Rattle.dr_meaning.specs.Runs.{Setting, Run, number, run_at, run_named, with_record, take_in, take_over, begin_run, add_record}
use Rattle.dr_meaning.specs.Lawful.{MayStart, MayCome, LawfulAfter}
use Rattle.dr_meaning.proofs.Lists.{Each, each-both, each-map, each-of-map}
use Rattle.dr_model.proofs.TableLaws.{IsTable, table_falls, table-add_record}
use Rattle.dr_model.proofs.LogLaws.{only_run, some_run}
use Rattle.dr_model.proofs.ChainLaws.{fresh_run}

module _ (setting : Setting) (I : Run → Type 0) (over : (r : Run) (n : ℕ) → I r → I (record r { by = n })) (begins : (runs : List Run) (row : StartRow) (plan : Plan) → MayStart setting runs row plan → I (fresh_run setting runs row plan)) (goes : (runs : List Run) (r : Run) (item : Record) → MayCome setting runs item → run_at (run_named item) runs ≡ Some r → I r → I (with_record r item)) where
  each-take_over : (row : StartRow) (q : Run) → I q → I (take_over row q)
  each-take_over row q h = go ((number q == row.over) && (q.by == 0))
    where
      go : (b : Bool) → I (cond b (record q { by = row.run }) q)
      go true = over q row.run h
      go false = h

  each-take_in : (runs : List Run) (item : Record) (r : Run) → MayCome setting runs item → run_at (run_named item) runs ≡ Some r → (q : Run) → I q × (number q ≡ run_named item → q ≡ r) → I (take_in item q)
  each-take_in runs item r may at_n q h = go (number q == run_named item) refl
    where
      go : (b : Bool) → (number q == run_named item) ≡ b → I (cond b (record q { log = item ∷ q.log }) q)
      go true own = goes runs q item may (at_n ∙ ap Some (sym (h.1 (eqb-true (number q) (run_named item) own)))) h.0
      go false own = h.0

  each-own : (runs : List Run) (item : Record) → MayCome setting runs item → IsTable runs → Each I runs → (r : Run) × (run_at (run_named item) runs ≡ Some r) → Each I (map (take_in item) runs)
  each-own runs item may t h (r, at_n) =
      each-of-map I (take_in item) runs
      (each-map (λ q. I q × (number q ≡ run_named item → q ≡ r)) (λ q. I (take_in item q)) (each-take_in runs item r may at_n) runs
      (each-both I (λ q. number q ≡ run_named item → q ≡ r) runs h (only_run (run_named item) runs r (table_falls runs t) at_n)))

  each-begin : (runs : List Run) (row : StartRow) (o : Option Plan) → IsSomeAnd o (MayStart setting runs row) → Each I runs → Each I (begin_run setting row o runs)
  each-begin runs row None may h = h
  each-begin runs row (Some plan) may h = (begins runs row plan may, each-of-map I (take_over row) runs (each-map I (λ q. I (take_over row q)) (each-take_over row) runs h))

  pub each-add_record : (runs : List Run) (item : Record) → MayCome setting runs item → IsTable runs → Each I runs → Each I (add_record setting runs item)
  each-add_record runs (Record.Estate bytes) may t h = h
  each-add_record runs (Record.Start row) may t h = each-begin runs row (slice_get setting.plans row.plan) may h
  each-add_record runs item may t h = each-own runs item may t h (some_run _ _ may)

  pub each-lawful : (runs : List Run) (records : List Record) → LawfulAfter setting runs records → IsTable runs → Each I runs → Each I (fold (add_record setting) runs records)
  each-lawful runs [] l t h = h
  each-lawful runs (item ∷ rest) l t h = each-lawful (add_record setting runs item) rest l.1 (table-add_record setting runs item l.0 t) (each-add_record runs item l.0 t h)
