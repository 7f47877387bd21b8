-- What lawful records make of the table of runs: numbers fall, and an open run is the last of each of its groups.
use Rattle.std.specs.Prelude.{◌≡◌, ◌≢◌, ℕ, suc, ◌+◌, ◌<◌, ◌==◌, ◌⊎◌, Bool, true, false, ◌&&◌, ◌||◌, not, List, [], ◌∷◌, Option, Some, None, cond, map, length, IsSomeAnd, slice_get, fold, find}
use Rattle.std.proofs.Common.{refl, ap, inl, inr, arith}
use Rattle.std.proofs.lemmas.Bool.{eq-eqb, ne_eqb, cases_eq}
use Rattle.dr_meaning.specs.Types.{StartRow, Plan, Record}
use Rattle.dr_base.specs.Lists.{has}
use Rattle.dr_meaning.specs.Runs.{Setting, Run, number, holds, is_finish, is_finished, is_open, last_of_group, run_at, run_named, take_in, take_over, begin_run, add_record}
use Rattle.dr_meaning.specs.Lawful.{MayStart, MayCome, LawfulAfter}
use Rattle.dr_meaning.proofs.Lists.{Each, each-map, each-find, each-of-map}
use Rattle.dr_model.proofs.ExpectedLaws.{Falls}

-- q doesn't stand in the way of a run that holds these groups
abbrev pub LeavesFree : List ℕ → Run → Type 0
LeavesFree groups q = is_open q ≡ true → Each (λ g. holds g q ≡ false) groups

abbrev pub IsTable : List Run → Type 0
IsTable [] = Unit {0}
IsTable (r ∷ earlier) = (number r ≡ length earlier + 1) × Each (LeavesFree r.start.groups) earlier × IsTable earlier

-- Falling numbers

pub numbers_below : (runs : List Run) → IsTable runs → Each (λ q. number q < length runs + 1) runs
numbers_below [] t = tt
numbers_below (r ∷ earlier) t = (omega arith, each-map (λ q. number q < length earlier + 1) (λ q. number q < length (r ∷ earlier) + 1) (λ q lt. omega arith) earlier (numbers_below earlier t.2))

pub table_falls : (runs : List Run) → IsTable runs → Falls runs
table_falls [] t = tt
table_falls (r ∷ earlier) t = (each-map (λ q. number q < length earlier + 1) (λ q. number q < number r) (λ q lt. omega (arith, t.0)) earlier (numbers_below earlier t.2), table_falls earlier t.2)

-- An open run is the last of each of its groups

not_among : (g : ℕ) (r : Run) (groups : List ℕ) → Each (λ h. holds h r ≡ false) groups → holds g r ≡ true → has groups g ≡ false
not_among g r [] e held = refl
not_among g r (h ∷ groups) e held = go (cases_eq h g) (not_among g r groups e.1 held)
  where
    go : (h ≡ g) ⊎ (h ≡ g → ⊥) → has groups g ≡ false → has (h ∷ groups) g ≡ false
    go (inl same) rest = let no : holds g r ≡ false = rw same at e.0 in absurd cc
    go (inr ne) rest = rw (ne_eqb h g ne) rest

pub open_is_last_of : (p : Run → Bool) (g : ℕ) (r : Run) (runs : List Run) → IsTable runs → find p runs ≡ Some r → is_open r ≡ true → holds g r ≡ true → last_of_group g runs ≡ Some r
open_is_last_of p g r [] t found going held = absurd cc
open_is_last_of p g r (q ∷ earlier) t found going held =
    go (p q) refl (λ e. open_is_last_of p g r earlier t.2 e going held)
    (λ e. not_among g r q.start.groups (each-find (LeavesFree q.start.groups) p earlier r t.1 e going) held)
  where
    go : (b : Bool) → p q ≡ b → (find p earlier ≡ Some r → last_of_group g earlier ≡ Some r) → (find p earlier ≡ Some r → holds g q ≡ false) → last_of_group g (q ∷ earlier) ≡ Some r
    go true e rest none = let same : Some q ≡ Some r = rw e at found in let is : q ≡ r = cc in rw (is, held) refl
    go false e rest none = let later : find p earlier ≡ Some r = rw e at found in rw (none later) (rest later)

pub open_is_last : (n g : ℕ) (r : Run) (runs : List Run) → IsTable runs → run_at n runs ≡ Some r → is_open r ≡ true → holds g r ≡ true → last_of_group g runs ≡ Some r
open_is_last n g r runs t at_n going held = open_is_last_of (λ run. number run == n) g r runs t at_n going held

-- Each record keeps the table

pub length-map_runs : (f : Run → Run) (runs : List Run) → length (map f runs) ≡ length runs
length-map_runs f [] = refl
length-map_runs f (r ∷ runs) = ap (λ n. suc n) (length-map_runs f runs)

module _ (f : Run → Run) (same : (r : Run) → (f r).start ≡ r.start) (shuts : (r : Run) → is_open (f r) ≡ true → is_open r ≡ true) where
  leaves_free : (groups : List ℕ) (runs : List Run) → Each (LeavesFree groups) runs → Each (LeavesFree groups) (map f runs)
  leaves_free groups [] h = tt
  leaves_free groups (r ∷ runs) h = (λ going. rw (same r) (h.0 (shuts r going)), leaves_free groups runs h.1)

  pub table-map : (runs : List Run) → IsTable runs → IsTable (map f runs)
  table-map [] t = tt
  table-map (r ∷ runs) t = (rw (same r, length-map_runs f runs) t.0, rw (same r) (leaves_free r.start.groups runs t.1), table-map runs t.2)

open_falls : (b c d e : Bool) → not (b || c) && d ≡ true → not c && d ≡ true
open_falls true c d e h = absurd cc
open_falls false c d e h = h

shuts_take_in : (item : Record) (r : Run) → is_open (take_in item r) ≡ true → is_open r ≡ true
shuts_take_in item r = go (number r == run_named item)
  where
    go : (b : Bool) → is_open (cond b (record r { log = item ∷ r.log }) r) ≡ true → is_open r ≡ true
    go true h = open_falls (is_finish item) (is_finished r) (r.by == 0) true h
    go false h = h

pub start_take_in : (item : Record) (r : Run) → (take_in item r).start ≡ r.start
start_take_in item r = go (number r == run_named item)
  where
    go : (b : Bool) → (cond b (record r { log = item ∷ r.log }) r).start ≡ r.start
    go true = refl
    go false = refl

pub start_take_over : (row : StartRow) (r : Run) → (take_over row r).start ≡ r.start
start_take_over row r = go ((number r == row.over) && (r.by == 0))
  where
    go : (b : Bool) → (cond b (record r { by = row.run }) r).start ≡ r.start
    go true = refl
    go false = refl

and_right : (a b : Bool) → a && b ≡ true → b ≡ true
and_right true b e = e
and_right false b e = absurd cc

-- a run that is open after it might be taken over was open before, and isn't the one that was taken over
still_open : (row : StartRow) (r : Run) → 0 < row.run → is_open (take_over row r) ≡ true → (is_open r ≡ true) × (number r ≢ row.over)
still_open row r above = go ((number r == row.over) && (r.by == 0)) refl
  where
    go : (b : Bool) → ((number r == row.over) && (r.by == 0)) ≡ b → is_open (cond b (record r { by = row.run }) r) ≡ true → (is_open r ≡ true) × (number r ≢ row.over)
    go true e h = absurd (let shut : row.run == 0 ≡ false = ne_eqb row.run 0 (λ z. omega arith) in let right : row.run == 0 ≡ true = and_right (not (is_finished r)) (row.run == 0) h in cc)
    go false e h = (h, λ same. let right : r.by == 0 ≡ true = and_right (not (is_finished r)) (r.by == 0) h in let wrong : true ≡ false = rw (eq-eqb (number r) row.over same, right) at e in cc)

table-begin : (setting : Setting) (runs : List Run) (row : StartRow) (plan : Plan) → MayStart setting runs row plan → IsTable runs → IsTable (begin_run setting row (Some plan) runs)
table-begin setting runs row plan may t = (
  rw (length-map_runs (take_over row) runs) may.numbered,
  each-of-map (LeavesFree row.groups) (take_over row) runs
      (each-map (λ q. is_open q ≡ true → number q ≢ row.over → Each (λ g. holds g q ≡ false) row.groups) (λ q. LeavesFree row.groups (take_over row q))
      (λ q h going. let open_before = still_open row q (omega (arith, may.numbered)) going in rw (start_take_over row q) (h open_before.0 open_before.1)) runs may.free),
  table-map (take_over row) (start_take_over row) (λ r h. (still_open row r (omega (arith, may.numbered)) h).0) runs t,
)

-- every lawful record keeps the table
pub table-add_record : (setting : Setting) (runs : List Run) (item : Record) → MayCome setting runs item → IsTable runs → IsTable (add_record setting runs item)
table-add_record setting runs (Record.Estate bytes) may t = t
table-add_record setting runs (Record.Start row) may t = start (slice_get setting.plans row.plan) may
  where
    start : (o : Option Plan) → IsSomeAnd o (MayStart setting runs row) → IsTable (begin_run setting row o runs)
    start None m = t
    start (Some plan) m = table-begin setting runs row plan m t
table-add_record setting runs item may t = table-map (take_in item) (start_take_in item) (shuts_take_in item) runs t

pub table-lawful : (setting : Setting) (runs : List Run) (records : List Record) → LawfulAfter setting runs records → IsTable runs → IsTable (fold (add_record setting) runs records)
table-lawful setting runs [] h t = t
table-lawful setting runs (item ∷ rest) h t = table-lawful setting (add_record setting runs item) rest h.1 (table-add_record setting runs item h.0 t)
