-- A Start that may come before and after some records: these begin no run, and finish no reprotect of its groups.
use Rattle.std.specs.Prelude.{◌≡◌, ℕ, ◌+◌, ◌≤◌, ◌==◌, Bool, true, false, ◌&&◌, ◌||◌, not, List, [], ◌∷◌, Option, Some, None, IsSomeAnd, cond, map, fold, find, length, option_map, slice_get}
use Rattle.std.specs.Option.{option_or}
use Rattle.std.proofs.Common.{refl, sym, ◌∙◌, subst, arith}
use Rattle.std.proofs.lemmas.Bool.{eqb-true}
use Rattle.dr_meaning.specs.Types.{Plan, StartRow, Record}
use Rattle.dr_meaning.specs.Runs.{Setting, Run, number, op, holds, is_finish, is_finished, run_at, run_named, take_in, take_over, begin_run, add_record}
use Rattle.dr_meaning.specs.Lawful.{MayFinish, MayStart, MayCome, LawfulAfter}
use Rattle.dr_meaning.specs.Changes.{is_reprotect, is_reverse, reversed_by, last_reverse, is_reversing}
use Rattle.dr_meaning.proofs.Lists.{each-map, find-passes}
use Rattle.dr_model.proofs.TableLaws.{IsTable, length-map_runs, table-add_record}
use Rattle.dr_model.proofs.LogLaws.{unfinished}
use Rattle.dr_model.proofs.ChainLaws.{open_run, same_number, and_left, and_right}
use Rattle.dr_model.proofs.MoreRecords.{or_false, turns, side_after, side-map, side_stays}
use Rattle.dr_model.proofs.Reversed.{IsKnown, may_known, known_on, grow, reverses, none_found, reversed_on, reversed_through}
use Rattle.dr_model.proofs.CallChange.{any_found}

-- No run begins ----------------------------------------------------------------------------------------------------

pub grow_all : (setting : Setting) (runs : List Run) (items : List Record) → length runs ≤ length (fold (add_record setting) runs items)
grow_all setting runs [] = omega arith
grow_all setting runs (item ∷ rest) = let a = grow setting runs item in let b = grow_all setting (add_record setting runs item) rest in omega arith

-- a Start begins a run
pub begins_run : (setting : Setting) (runs : List Run) (row : StartRow) → MayCome setting runs (Record.Start row) → (row.run ≡ length runs + 1) × (length (add_record setting runs (Record.Start row)) ≡ length runs + 1)
begins_run setting runs row may = go (slice_get setting.plans row.plan) may
  where
    go : (o : Option Plan) → IsSomeAnd o (MayStart setting runs row) → (row.run ≡ length runs + 1) × (length (begin_run setting row o runs) ≡ length runs + 1)
    go None m = elim m [ ]
    go (Some plan) m = let same = length-map_runs (take_over row) runs in (m.numbered, omega (arith, same))

-- Nothing is finished that reverses ------------------------------------------------------------------------------------

reverses_falls : (g : ℕ) (item : Record) (r : Run) → reverses g r ≡ false → reverses g (take_in item r) ≡ false
reverses_falls g item r = go (number r == run_named item)
  where
    none : (h o f x : Bool) → h && (o && not f) ≡ false → h && (o && not (x || f)) ≡ false
    none false o f x e = refl
    none true false f x e = refl
    none true true true true e = refl
    none true true true false e = refl
    none true true false x e = absurd cc

    go : (b : Bool) → reverses g r ≡ false → reverses g (cond b (record r { log = item ∷ r.log }) r) ≡ false
    go true e = none (holds g r) (is_reprotect (op r)) (is_finished r) (is_finish item) e
    go false e = e

quiet_falls : (g : ℕ) (item : Record) (runs : List Run) → is_reversing g runs ≡ false → is_reversing g (map (take_in item) runs) ≡ false
quiet_falls g item [] e = refl
quiet_falls g item (r ∷ runs) e = let both = or_false (reverses g r) _ e in rw (reverses_falls g item r both.0) (quiet_falls g item runs both.1)

-- a Finish finishes no reprotect of a group where none is under way
finishes_none : (setting : Setting) (runs : List Run) (g n moment : ℕ) (ms : List ℕ) → IsTable runs → MayCome setting runs (Record.Finish n moment ms) → is_reversing g runs ≡ false → reversed_by g runs (Record.Finish n moment ms) ≡ None
finishes_none setting runs g n moment ms t may quiet = go (find (is_reverse g n) runs) refl
  where
    go : (o : Option Run) → find (is_reverse g n) runs ≡ o → option_map (λ (q : Run). q.start) o ≡ None
    go None found = refl
    go (Some q) found =
        let (r, at_n, going) = open_run (run_at n runs) (λ run. MayFinish run ms) may in
        let passes : (number q == n) && (holds g q && is_reprotect (op q)) ≡ true = find-passes (is_reverse g n) runs q found in
        let number_q : number q ≡ n = eqb-true (number q) n (and_left (number q == n) _ passes) in
        let number_r : number r ≡ n = eqb-true (number r) n (find-passes (λ x. number x == n) runs r at_n) in
        let is : r ≡ q = same_number runs r q t (λ x. number x == n) (is_reverse g n) at_n found (number_r ∙ sym number_q) in
        let both : holds g q && is_reprotect (op q) ≡ true = and_right (number q == n) _ passes in
        let unfin : is_finished q ≡ false = subst (λ (x : Run). is_finished x ≡ false) is (unfinished (is_finished r) (r.by == 0) going) in
        let wrong : is_reversing g runs ≡ true = any_found (is_reverse g n) (reverses g) runs q found (rw (and_left (holds g q) _ both, and_right (holds g q) _ both, unfin) refl) in
        absurd (let no : true ≡ false = sym wrong ∙ quiet in cc)

-- and turns no side
turns_none : (g n moment : ℕ) (ms : List ℕ) (r : Run) → is_reverse g n r ≡ false → turns g (take_in (Record.Finish n moment ms) r) ≡ turns g r
turns_none g n moment ms r = go (number r == n)
  where
    none : (h o f : Bool) → h && o ≡ false → h && (true && o) ≡ h && (f && o)
    none false o f e = refl
    none true true f e = absurd cc
    none true false true e = refl
    none true false false e = refl

    go : (b : Bool) → b && (holds g r && is_reprotect (op r)) ≡ false → turns g (cond b (record r { log = Record.Finish n moment ms ∷ r.log }) r) ≡ turns g r
    go true e = none (holds g r) (is_reprotect (op r)) (is_finished r) e
    go false e = refl

-- a record that begins no run leaves a group's side, and its last reprotect, and no reprotect under way
record Leaves (setting : Setting) (runs : List Run) (item : Record) (g : ℕ) : Type 0 where
  quiet : is_reversing g (add_record setting runs item) ≡ false
  none : reversed_by g runs item ≡ None
  side : side_after setting.estate g (add_record setting runs item) ≡ side_after setting.estate g runs

leaves : (setting : Setting) (runs : List Run) (item : Record) (g : ℕ) → IsTable runs → MayCome setting runs item → length (add_record setting runs item) ≡ length runs → is_reversing g runs ≡ false → Leaves setting runs item g
leaves setting runs (Record.Estate bytes) g t may same quiet = elim may [ ]
leaves setting runs (Record.Start row) g t may same quiet = absurd (let begins = begins_run setting runs row may in omega (arith, begins.1, same))
leaves setting runs (Record.Finish n moment ms) g t may same quiet =
    let none = finishes_none setting runs g n moment ms t may quiet in
    record {
      quiet = quiet_falls g (Record.Finish n moment ms) runs quiet;
      none = none;
      side = side-map setting.estate g (take_in (Record.Finish n moment ms)) runs
          (each-map (λ r. is_reverse g n r ≡ false) (λ r. turns g (take_in (Record.Finish n moment ms) r) ≡ turns g r) (turns_none g n moment ms) runs (none_found (is_reverse g n) runs none));
    }
leaves setting runs item g t may same quiet = record { quiet = quiet_falls g item runs quiet; none = refl; side = side_stays setting.estate g setting runs item refl }

-- the same of more records
pub leaves_all : (setting : Setting) (runs : List Run) (items : List Record) (g : ℕ) → IsTable runs → LawfulAfter setting runs items → length (fold (add_record setting) runs items) ≡ length runs → is_reversing g runs ≡ false
    → (last_reverse g (fold (add_record setting) runs items) items ≡ None) × (side_after setting.estate g (fold (add_record setting) runs items) ≡ side_after setting.estate g runs)
leaves_all setting runs [] g t lawful same quiet = (refl, refl)
leaves_all setting runs (item ∷ rest) g t lawful same quiet =
    let a = grow setting runs item in
    let b = grow_all setting (add_record setting runs item) rest in
    let first : length (add_record setting runs item) ≡ length runs = omega (arith, a, b, same) in
    let later : length (fold (add_record setting) (add_record setting runs item) rest) ≡ length (add_record setting runs item) = omega (arith, same, first) in
    let one = leaves setting runs item g t lawful.0 first quiet in
    let all = leaves_all setting (add_record setting runs item) rest g (table-add_record setting runs item lawful.0 t) lawful.1 later one.quiet in
    let known : IsKnown runs item = may_known setting runs item t lawful.0 in
    let reversed : reversed_by g (fold (add_record setting) (add_record setting runs item) rest) item ≡ None =
    reversed_through setting (add_record setting runs item) rest item g lawful.1 (known_on setting runs item item known) ∙ reversed_on setting runs item item g lawful.0 known ∙ one.none in
    ((λ i. option_or (all.0 i) (reversed i)), all.1 ∙ one.side)
