-- What lawful records make of each run's log: all visits but the last are done, and only a failover excuses a machine.
use Rattle.std.specs.Prelude.{◌≡◌, ◌≢◌, ℕ, ◌<◌, ◌==◌, Bool, true, false, not, ◌&&◌, List, [], ◌∷◌, Option, Some, None, IsTrue, IsSomeAnd, cond, map, fold, slice_get}
use Rattle.std.proofs.Common.{refl, sym, ap, ◌∙◌, arith}
use Rattle.std.proofs.lemmas.Bool.{eqb-true, eq-eqb}
use Rattle.dr_meaning.specs.Types.{Op, StartRow, Plan, Record}
use Rattle.dr_meaning.specs.Visits.{Visit, visits, mark_done, excuse, open_stage}
use Rattle.dr_meaning.specs.Runs.{Setting, Run, number, op, holds, is_open, is_finished, run_at, run_named, take_in, take_over, begin_run, add_record}
use Rattle.dr_meaning.specs.Lawful.{MayFinish, MayCome, LawfulAfter}
use Rattle.dr_meaning.proofs.Lists.{Each, each-both, each-map, each-of-map, each-find}
use Rattle.dr_model.proofs.ExpectedLaws.{Falls, frame-finish_test}
use Rattle.dr_model.proofs.TableLaws.{IsTable, table-lawful, open_is_last, table_falls, table-add_record}
use Rattle.dr_model.proofs.WalkedLaws.{IsWhole, IsWalked}
use Rattle.dr_outside.specs.Pairs.{Frame}
use Rattle.dr_meaning.specs.Expected.{ExpectedFrame}

-- all visits but the last are done
abbrev pub DoneBefore : List Visit → Type 0
DoneBefore [] = Unit {0}
DoneBefore (v ∷ earlier) = Each (λ u. u.done ≡ true) earlier

pub record IsGoneThrough (r : Run) : Type 0 where
  pub before : DoneBefore (visits r.log)
  pub none_excused : op r ≢ Op.Failover → Each (λ v. v.excused ≡ []) (visits r.log)

pub head_done : (vs : List Visit) → open_stage vs ≡ None → DoneBefore vs → Each (λ u. u.done ≡ true) vs
head_done [] e h = tt
head_done (v ∷ earlier) e h = (go v.done refl, h)
  where
    go : (b : Bool) → v.done ≡ b → v.done ≡ true
    go true f = f
    go false f = absurd (let stuck : Some v.stage ≡ None = rw f at e in cc)

before_mark : (vs : List Visit) → DoneBefore vs → DoneBefore (mark_done vs)
before_mark [] h = h
before_mark (v ∷ earlier) h = h

before_excuse : (m : ℕ) (vs : List Visit) → DoneBefore vs → DoneBefore (excuse m vs)
before_excuse m [] h = h
before_excuse m (v ∷ earlier) h = h

excused_mark : (vs : List Visit) → Each (λ v. v.excused ≡ []) vs → Each (λ v. v.excused ≡ []) (mark_done vs)
excused_mark [] h = h
excused_mark (v ∷ earlier) h = h

-- a lawful record of the run keeps this
pub gone-record : (setting : Setting) (runs : List Run) (r : Run) (item : Record) → MayCome setting runs item → run_at (run_named item) runs ≡ Some r → IsGoneThrough r → IsGoneThrough (record r { log = item ∷ r.log })
gone-record setting runs r (Record.Estate bytes) may at_n h = elim may [ ]
gone-record setting runs r (Record.Start row) may at_n h = record { before = h.before; none_excused = h.none_excused }
gone-record setting runs r (Record.Attempt n moment) may at_n h = record { before = h.before; none_excused = h.none_excused }
gone-record setting runs r (Record.Begin n stage) may at_n h =
    let begin = (rw at_n at may).1 in
    record { before = head_done (visits r.log) begin.none_begun h.before; none_excused = λ ne. (refl, h.none_excused ne) }
gone-record setting runs r (Record.Done n stage) may at_n h = record { before = before_mark (visits r.log) h.before; none_excused = λ ne. excused_mark (visits r.log) (h.none_excused ne) }
gone-record setting runs r (Record.Skip n stage machine) may at_n h =
    let skip = (rw at_n at may).1 in
    record { before = before_excuse machine (visits r.log) h.before; none_excused = λ ne. absurd (ne skip.failover) }
gone-record setting runs r (Record.Aside n machine by) may at_n h =
    let aside = (rw at_n at may).1.1 in
    record { before = before_excuse machine (visits r.log) h.before; none_excused = λ ne. absurd (ne aside.failover) }
gone-record setting runs r (Record.Answer n step text) may at_n h = record { before = h.before; none_excused = h.none_excused }
gone-record setting runs r (Record.Code n token machine code) may at_n h = record { before = h.before; none_excused = h.none_excused }
gone-record setting runs r (Record.Finish n moment machines) may at_n h = record { before = h.before; none_excused = h.none_excused }

-- the run of a number is the only one of it
pub only_run : (n : ℕ) (runs : List Run) (r : Run) → Falls runs → run_at n runs ≡ Some r → Each (λ q. number q ≡ n → q ≡ r) runs
only_run n [] r f e = tt
only_run n (q ∷ runs) r f e = go (number q == n) refl (only_run n runs r f.1)
  where
    go : (b : Bool) → (number q == n) ≡ b → (run_at n runs ≡ Some r → Each (λ p. number p ≡ n → p ≡ r) runs) → Each (λ p. number p ≡ n → p ≡ r) (q ∷ runs)
    go true own rest =
        let same : Some q ≡ Some r = rw own at e in
        let is : q ≡ r = cc in
        (λ _. is, each-map (λ p. number p < number q) (λ p. number p ≡ n → p ≡ r) (λ p lt at_n. absurd (omega (arith, eqb-true (number q) n own))) runs f.0)
    go false own rest = (λ at_n. absurd (let yes : number q == n ≡ true = eq-eqb (number q) n at_n in cc), rest (rw own at e))

pub some_run : (o : Option Run) (P : Run → Type 0) → IsSomeAnd o P → (r : Run) × (o ≡ Some r)
some_run None P h = elim h [ ]
some_run (Some r) P h = (r, refl)

gone-take_in : (setting : Setting) (runs : List Run) (item : Record) (r : Run) → MayCome setting runs item → run_at (run_named item) runs ≡ Some r → (q : Run) → IsGoneThrough q × (number q ≡ run_named item → q ≡ r) → IsGoneThrough (take_in item q)
gone-take_in setting runs item r may at_n q h = go (number q == run_named item) refl
  where
    go : (b : Bool) → (number q == run_named item) ≡ b → IsGoneThrough (cond b (record q { log = item ∷ q.log }) q)
    go true own = gone-record setting runs q item may (at_n ∙ ap Some (sym (h.1 (eqb-true (number q) (run_named item) own)))) h.0
    go false own = h.0

gone-take_over : (row : StartRow) (q : Run) → IsGoneThrough q → IsGoneThrough (take_over row q)
gone-take_over row q h = go ((number q == row.over) && (q.by == 0))
  where
    go : (b : Bool) → IsGoneThrough (cond b (record q { by = row.run }) q)
    go true = record { before = h.before; none_excused = h.none_excused }
    go false = h

gone-own : (setting : Setting) (runs : List Run) (item : Record) → MayCome setting runs item → IsTable runs → Each IsGoneThrough runs → (r : Run) × (run_at (run_named item) runs ≡ Some r) → Each IsGoneThrough (map (take_in item) runs)
gone-own setting runs item may t h (r, at_n) =
    each-of-map IsGoneThrough (take_in item) runs
    (each-map (λ q. IsGoneThrough q × (number q ≡ run_named item → q ≡ r)) (λ q. IsGoneThrough (take_in item q)) (gone-take_in setting runs item r may at_n) runs
    (each-both IsGoneThrough (λ q. number q ≡ run_named item → q ≡ r) runs h (only_run (run_named item) runs r (table_falls runs t) at_n)))

-- each run of a lawful journal is so
pub gone-add_record : (setting : Setting) (runs : List Run) (item : Record) → MayCome setting runs item → IsTable runs → Each IsGoneThrough runs → Each IsGoneThrough (add_record setting runs item)
gone-add_record setting runs (Record.Estate bytes) may t h = h
gone-add_record setting runs (Record.Start row) may t h = start (slice_get setting.plans row.plan)
  where
    start : (o : Option Plan) → Each IsGoneThrough (begin_run setting row o runs)
    start None = h
    start (Some plan) = (record { before = tt; none_excused = λ ne. tt }, each-of-map IsGoneThrough (take_over row) runs (each-map IsGoneThrough (λ q. IsGoneThrough (take_over row q)) (gone-take_over row) runs h))
gone-add_record setting runs item may t h = gone-own setting runs item may t h (some_run _ _ may)

pub gone-lawful : (setting : Setting) (runs : List Run) (records : List Record) → LawfulAfter setting runs records → IsTable runs → Each IsGoneThrough runs → Each IsGoneThrough (fold (add_record setting) runs records)
gone-lawful setting runs [] l t h = h
gone-lawful setting runs (item ∷ rest) l t h = gone-lawful setting (add_record setting runs item) rest l.1 (table-add_record setting runs item l.0 t) (gone-add_record setting runs item l.0 t h)

-- A lawful Finish of a run other than a failover ends a walked run.
pub finish_walked : (r : Run) (machines : List ℕ) → IsGoneThrough r → op r ≢ Op.Failover → MayFinish r machines → IsWalked r
finish_walked r machines gone ne may = record {
  all_done = may.all_done;
  whole = both (visits r.log) (head_done (visits r.log) may.none_begun gone.before) (gone.none_excused ne);
}
  where
    both : (vs : List Visit) → Each (λ u. u.done ≡ true) vs → Each (λ v. v.excused ≡ []) vs → Each IsWhole vs
    both vs d e = each-map (λ v. (v.done ≡ true) × (v.excused ≡ [])) IsWhole (λ v h. record { done = h.0; none = h.1 }) vs (each-both (λ v. v.done ≡ true) (λ v. v.excused ≡ []) vs d e)

pub unfinished : (f b : Bool) → not f && b ≡ true → f ≡ false
unfinished true b h = absurd cc
unfinished false b h = refl

-- A lawful Finish of a test leaves each expected frame expected.
pub lawful-finish_test : (setting : Setting) (records : List Record) (moment : ℕ) (machines : List ℕ) (r : Run) (g : ℕ) (y : Frame) → let runs = fold (add_record setting) [] records in LawfulAfter setting [] records → MayCome setting runs (Record.Finish (number r) moment machines) → run_at (number r) runs ≡ Some r → op r ≡ Op.Testing → holds g r ≡ true → ExpectedFrame setting.estate g runs y → ExpectedFrame setting.estate g (add_record setting runs (Record.Finish (number r) moment machines)) y
lawful-finish_test setting records moment machines r g y lawful may at_n test held expected =
    let runs = fold (add_record setting) [] records in
    let table : IsTable runs = table-lawful setting [] records lawful tt in
    let gone : IsGoneThrough r = each-find IsGoneThrough (λ q. number q == number r) runs r (gone-lawful setting [] records lawful tt tt) at_n in
    let open_may : IsTrue (is_open r) × MayFinish r machines = rw at_n at may in
    let going : is_open r ≡ true = open_may.0 in
    frame-finish_test setting.estate g runs r (table_falls runs table) (open_is_last (number r) g r runs table at_n going held) (unfinished (is_finished r) (r.by == 0) going)
    moment machines y test (finish_walked r machines gone (λ e. let wrong : Op.Testing ≡ Op.Failover = sym test ∙ e in cc) open_may.1) expected
