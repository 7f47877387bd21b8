-- When records come: the reprotects of a group that they finish, and the least writes that these leave.
use Rattle.std.specs.Prelude.{◌≡◌, ℕ, ◌+◌, ◌<◌, ◌≤◌, ◌==◌, Bool, true, false, ◌&&◌, ◌||◌, not, List, [], ◌∷◌, ◌++◌, Option, Some, None, IsSomeAnd, cond, map, fold, find, length, option_map, slice_get}
use Rattle.std.specs.Option.{option_or}
use Rattle.std.proofs.Common.{refl, sym, ap, ◌∙◌, subst, arith}
use Rattle.std.proofs.lemmas.Bool.{eqb-true, ne_eqb}
use Rattle.dr_base.specs.Lists.{has}
use Rattle.dr_outside.specs.BySide.{at}
use Rattle.dr_meaning.specs.Types.{Side, Plan, StartRow, Record}
use Rattle.dr_meaning.specs.Worlds.{World}
use Rattle.dr_meaning.specs.Runs.{Setting, Run, number, op, holds, is_finish, is_finished, run_named, run_at, take_in, take_over, begin_run, add_record}
use Rattle.dr_meaning.specs.Lawful.{MayStart, MayCome, LawfulAfter}
use Rattle.dr_meaning.specs.Changes.{is_reprotect, is_reverse, reversed_by, last_reverse, is_reversing, least_of, least_at}
use Rattle.dr_meaning.proofs.Lists.{Each, each-map, each-find, find-passes, all_each}
use Rattle.dr_model.proofs.TableLaws.{IsTable, numbers_below, length-map_runs, table-add_record, start_take_in, start_take_over}
use Rattle.dr_model.proofs.ChainLaws.{fresh_run}
use Rattle.dr_model.proofs.NumberLaws.{find-map}
use Rattle.dr_model.proofs.MoreRecords.{or_false}

-- The run of a record is there ------------------------------------------------------------------------------------

-- a record belongs to one of these runs, or to none
abbrev pub IsKnown : List Run → Record → Type 0
IsKnown runs item = run_named item < length runs + 1

known_if : (n : ℕ) (runs : List Run) → IsTable runs → (r : Run) × (run_at n runs ≡ Some r) → n < length runs + 1
known_if n runs t (r, found) =
    let below : number r < length runs + 1 = each-find (λ q. number q < length runs + 1) (λ q. number q == n) runs r (numbers_below runs t) found in
    let same : number r ≡ n = eqb-true (number r) n (find-passes (λ q. number q == n) runs r found) in
    omega arith

open_known : (n : ℕ) (runs : List Run) (P : Run → Type 0) → IsTable runs → IsSomeAnd (run_at n runs) P → n < length runs + 1
open_known n runs P t may = go (run_at n runs) refl may
  where
    go : (o : Option Run) → run_at n runs ≡ o → IsSomeAnd o P → n < length runs + 1
    go None e h = elim h [ ]
    go (Some r) e h = known_if n runs t (r, e)

pub may_known : (setting : Setting) (runs : List Run) (item : Record) → IsTable runs → MayCome setting runs item → IsKnown runs item
may_known setting runs (Record.Estate bytes) t may = elim may [ ]
may_known setting runs (Record.Start row) t may = omega arith
may_known setting runs item t may = open_known (run_named item) runs _ t may

grow_begin : (setting : Setting) (row : StartRow) (o : Option Plan) (runs : List Run) → length runs ≤ length (begin_run setting row o runs)
grow_begin setting row None runs = omega arith
grow_begin setting row (Some plan) runs = let same = length-map_runs (take_over row) runs in omega (arith, same)

pub grow : (setting : Setting) (runs : List Run) (item : Record) → length runs ≤ length (add_record setting runs item)
grow setting runs (Record.Estate bytes) = omega arith
grow setting runs (Record.Start row) = grow_begin setting row (slice_get setting.plans row.plan) runs
grow setting runs item = let same = length-map_runs (take_in item) runs in omega (arith, same)

pub known_on : (setting : Setting) (runs : List Run) (item it : Record) → IsKnown runs it → IsKnown (add_record setting runs item) it
known_on setting runs item it known = let more = grow setting runs item in omega (arith, more, known)

pub known_through : (setting : Setting) (runs : List Run) (items : List Record) (it : Record) → IsKnown runs it → IsKnown (fold (add_record setting) runs items) it
known_through setting runs [] it known = known
known_through setting runs (item ∷ rest) it known = known_through setting (add_record setting runs item) rest it (known_on setting runs item it known)

-- each record that came is known
pub known_lawful : (setting : Setting) (runs : List Run) (items : List Record) → IsTable runs → LawfulAfter setting runs items → Each (IsKnown (fold (add_record setting) runs items)) items
known_lawful setting runs [] t lawful = tt
known_lawful setting runs (item ∷ rest) t lawful = (
  known_through setting (add_record setting runs item) rest item (known_on setting runs item item (may_known setting runs item t lawful.0)),
  known_lawful setting (add_record setting runs item) rest (table-add_record setting runs item lawful.0 t) lawful.1,
)

-- The reprotect that a record finishes -------------------------------------------------------------------------------

start_of_mapped : (step : Run → Run) → ((r : Run) → (step r).start ≡ r.start) → (o : Option Run) → option_map (λ (r : Run). r.start) (option_map step o) ≡ option_map (λ (r : Run). r.start) o
start_of_mapped step same None = refl
start_of_mapped step same (Some r) = ap Some (same r)

found_mapped : (step : Run → Run) → ((r : Run) → (step r).start ≡ r.start) → (g n : ℕ) (runs : List Run) → option_map (λ (r : Run). r.start) (find (is_reverse g n) (map step runs)) ≡ option_map (λ (r : Run). r.start) (find (is_reverse g n) runs)
found_mapped step same g n runs =
    ap (option_map (λ (r : Run). r.start)) (find-map (is_reverse g n) step (λ r. ap (λ (s : StartRow). (s.run == n) && (has s.groups g && is_reprotect s.op)) (same r)) runs)
    ∙ start_of_mapped step same (find (is_reverse g n) runs)

found_begun : (setting : Setting) (row : StartRow) (o : Option Plan) (g n : ℕ) (runs : List Run) → IsSomeAnd o (MayStart setting runs row) → n < length runs + 1 → option_map (λ (r : Run). r.start) (find (is_reverse g n) (begin_run setting row o runs)) ≡ option_map (λ (r : Run). r.start) (find (is_reverse g n) runs)
found_begun setting row None g n runs may known = refl
found_begun setting row (Some plan) g n runs may known =
    rw (ne_eqb row.run n (λ same. omega (arith, may.numbered, same, known))) (found_mapped (take_over row) (start_take_over row) g n runs)

found_on : (setting : Setting) (runs : List Run) (item : Record) (g n : ℕ) → MayCome setting runs item → n < length runs + 1 → option_map (λ (r : Run). r.start) (find (is_reverse g n) (add_record setting runs item)) ≡ option_map (λ (r : Run). r.start) (find (is_reverse g n) runs)
found_on setting runs (Record.Estate bytes) g n may known = refl
found_on setting runs (Record.Start row) g n may known = found_begun setting row (slice_get setting.plans row.plan) g n runs may known
found_on setting runs item g n may known = found_mapped (take_in item) (start_take_in item) g n runs

-- the reprotect that a record finished stays the same
pub reversed_on : (setting : Setting) (runs : List Run) (item it : Record) (g : ℕ) → MayCome setting runs item → IsKnown runs it → reversed_by g (add_record setting runs item) it ≡ reversed_by g runs it
reversed_on setting runs item (Record.Finish n moment ms) g may known = found_on setting runs item g n may known
reversed_on setting runs item it g may known = refl

pub last_on : (setting : Setting) (runs : List Run) (item : Record) (more : List Record) (g : ℕ) → MayCome setting runs item → Each (IsKnown runs) more → last_reverse g (add_record setting runs item) more ≡ last_reverse g runs more
last_on setting runs item [] g may known = refl
last_on setting runs item (it ∷ more) g may known = λ i. option_or (last_on setting runs item more g may known.1 i) (reversed_on setting runs item it g may known.0 i)

pub reversed_through : (setting : Setting) (runs : List Run) (items : List Record) (it : Record) (g : ℕ) → LawfulAfter setting runs items → IsKnown runs it → reversed_by g (fold (add_record setting) runs items) it ≡ reversed_by g runs it
reversed_through setting runs [] it g lawful known = refl
reversed_through setting runs (item ∷ rest) it g lawful known =
    reversed_through setting (add_record setting runs item) rest it g lawful.1 (known_on setting runs item it known) ∙ reversed_on setting runs item it g lawful.0 known

pub last_through : (setting : Setting) (runs : List Run) (items more : List Record) (g : ℕ) → LawfulAfter setting runs items → Each (IsKnown runs) more → last_reverse g (fold (add_record setting) runs items) more ≡ last_reverse g runs more
last_through setting runs items [] g lawful known = refl
last_through setting runs items (it ∷ more) g lawful known = λ i. option_or (last_through setting runs items more g lawful known.1 i) (reversed_through setting runs items it g lawful known.0 i)

or_chain : {X : Type 0} (a b c : Option X) → option_or (option_or a b) c ≡ option_or a (option_or b c)
or_chain None b c = refl
or_chain (Some x) b c = refl

or_none : {X : Type 0} (a : Option X) → option_or a None ≡ a
or_none None = refl
or_none (Some x) = refl

-- of two lists the last reprotect is that of the second, or else that of the first
pub last_append : (g : ℕ) (runs : List Run) (xs ys : List Record) → last_reverse g runs (xs ++ ys) ≡ option_or (last_reverse g runs ys) (last_reverse g runs xs)
last_append g runs [] ys = sym (or_none (last_reverse g runs ys))
last_append g runs (x ∷ xs) ys = ap (λ o. option_or o (reversed_by g runs x)) (last_append g runs xs ys) ∙ or_chain (last_reverse g runs ys) (last_reverse g runs xs) (reversed_by g runs x)

-- A reprotect that isn't finished --------------------------------------------------------------------------------------

-- whether a run is a reprotect of the group that isn't finished
abbrev pub reverses : ℕ → Run → Bool
reverses g run = holds g run && (is_reprotect (op run) && not (is_finished run))

quiet_map : (g : ℕ) (step : Run → Run) (runs : List Run) → Each (λ r. reverses g (step r) ≡ false → reverses g r ≡ false) runs → is_reversing g (map step runs) ≡ false → is_reversing g runs ≡ false
quiet_map g step [] each e = refl
quiet_map g step (r ∷ runs) each e = let both = or_false (reverses g (step r)) _ e in rw (each.0 both.0) (quiet_map g step runs each.1 both.1)

quiet_over : (g : ℕ) (row : StartRow) (r : Run) → reverses g (take_over row r) ≡ false → reverses g r ≡ false
quiet_over g row r = go ((number r == row.over) && (r.by == 0))
  where
    go : (b : Bool) → reverses g (cond b (record r { by = row.run }) r) ≡ false → reverses g r ≡ false
    go true e = e
    go false e = e

quiet_open : (g : ℕ) (item : Record) → is_finish item ≡ false → (r : Run) → reverses g (take_in item r) ≡ false → reverses g r ≡ false
quiet_open g item none r = go (number r == run_named item)
  where
    go : (b : Bool) → reverses g (cond b (record r { log = item ∷ r.log }) r) ≡ false → reverses g r ≡ false
    go true e = sym (ap (λ (f : Bool). holds g r && (is_reprotect (op r) && not (f || is_finished r))) none) ∙ e
    go false e = e

quiet_finish : (g n moment : ℕ) (ms : List ℕ) (r : Run) → is_reverse g n r ≡ false → reverses g (take_in (Record.Finish n moment ms) r) ≡ false → reverses g r ≡ false
quiet_finish g n moment ms r other = go (number r == n) other
  where
    none : (h o f : Bool) → h && o ≡ false → h && (o && f) ≡ false
    none false o f e = refl
    none true false f e = refl
    none true true f e = absurd cc

    go : (b : Bool) → b && (holds g r && is_reprotect (op r)) ≡ false → reverses g (cond b (record r { log = Record.Finish n moment ms ∷ r.log }) r) ≡ false → reverses g r ≡ false
    go true e h = none (holds g r) (is_reprotect (op r)) (not (is_finished r)) e
    go false e h = h

pub none_found : (p : Run → Bool) (runs : List Run) → option_map (λ (r : Run). r.start) (find p runs) ≡ None → Each (λ r. p r ≡ false) runs
none_found p [] e = tt
none_found p (r ∷ runs) e = go (p r) refl (none_found p runs) e
  where
    go : (b : Bool) → p r ≡ b → (option_map (λ (q : Run). q.start) (find p runs) ≡ None → Each (λ q. p q ≡ false) runs) → option_map (λ (q : Run). q.start) (cond b (Some r) (find p runs)) ≡ None → Each (λ q. p q ≡ false) (r ∷ runs)
    go true is rest f = absurd (let wrong : Some r.start ≡ None = f in cc)
    go false is rest f = (is, rest f)

quiet_begin : (setting : Setting) (row : StartRow) (o : Option Plan) (g : ℕ) (runs : List Run) → is_reversing g (begin_run setting row o runs) ≡ false → is_reversing g runs ≡ false
quiet_begin setting row None g runs e = e
quiet_begin setting row (Some plan) g runs e =
    quiet_map g (take_over row) runs (all_each (λ r. reverses g (take_over row r) ≡ false → reverses g r ≡ false) (quiet_over g row) runs) (or_false (reverses g (fresh_run setting runs row plan)) _ e).1

-- where no reprotect of the group is under way after a record that finished none, none was before it
pub quiet_record : (setting : Setting) (runs : List Run) (item : Record) (g : ℕ) → reversed_by g runs item ≡ None → is_reversing g (add_record setting runs item) ≡ false → is_reversing g runs ≡ false
quiet_record setting runs (Record.Estate bytes) g none e = e
quiet_record setting runs (Record.Start row) g none e = quiet_begin setting row (slice_get setting.plans row.plan) g runs e
quiet_record setting runs (Record.Finish n moment ms) g none e =
    quiet_map g (take_in (Record.Finish n moment ms)) runs
    (each-map (λ r. is_reverse g n r ≡ false) (λ r. reverses g (take_in (Record.Finish n moment ms) r) ≡ false → reverses g r ≡ false) (quiet_finish g n moment ms) runs (none_found (is_reverse g n) runs none)) e
quiet_record setting runs item g none e =
    quiet_map g (take_in item) runs (all_each (λ r. reverses g (take_in item r) ≡ false → reverses g r ≡ false) (quiet_open g item refl) runs) e

or_nothing : {X : Type 0} (a b : Option X) → option_or a b ≡ None → (a ≡ None) × (b ≡ None)
or_nothing None b e = (refl, e)
or_nothing (Some x) b e = absurd cc

pub quiet_through : (setting : Setting) (runs : List Run) (items : List Record) (g : ℕ) → IsTable runs → LawfulAfter setting runs items → last_reverse g (fold (add_record setting) runs items) items ≡ None → is_reversing g (fold (add_record setting) runs items) ≡ false → is_reversing g runs ≡ false
quiet_through setting runs [] g t lawful none e = e
quiet_through setting runs (item ∷ rest) g t lawful none e =
    let next : List Run = add_record setting runs item in
    let both = or_nothing (last_reverse g (fold (add_record setting) next rest) rest) _ none in
    let known : IsKnown runs item = may_known setting runs item t lawful.0 in
    let same : reversed_by g (fold (add_record setting) (add_record setting runs item) rest) item ≡ reversed_by g runs item = reversed_through setting (add_record setting runs item) rest item g lawful.1 (known_on setting runs item item known) ∙ reversed_on setting runs item item g lawful.0 known in
    quiet_record setting runs item g (sym same ∙ both.1)
    (quiet_through setting (add_record setting runs item) rest g (table-add_record setting runs item lawful.0 t) lawful.1 both.0 e)

-- The least writes -------------------------------------------------------------------------------------------------------

-- the least writes by all records are at most the least by those that came later
pub least_through : (setting : Setting) (runs : List Run) (more items : List Record) (g p : ℕ) (side : Side) (old middle : World) → IsTable runs → Each (IsKnown runs) more → LawfulAfter setting runs items
    → (is_reversing g runs ≡ false → least_at g p runs more old side ≤ (at side (middle.pair p).content).writes)
    → is_reversing g (fold (add_record setting) runs items) ≡ false
    → least_at g p (fold (add_record setting) runs items) (more ++ items) old side ≤ least_at g p (fold (add_record setting) runs items) items middle side
least_through setting runs more items g p side old middle t known lawful keeps quiet =
    let later : List Run = fold (add_record setting) runs items in
    subst (λ (o : Option StartRow). least_of p (at side (old.pair p).content).writes o ≤ least_at g p later items middle side) (sym (last_append g later more items))
    (go (last_reverse g later items) refl)
  where
    go : (o : Option StartRow) → last_reverse g (fold (add_record setting) runs items) items ≡ o → least_of p (at side (old.pair p).content).writes (option_or o (last_reverse g (fold (add_record setting) runs items) more)) ≤ least_of p (at side (middle.pair p).content).writes o
    go (Some row) e = omega arith
    go None e = rw (last_through setting runs items more g lawful known) (keeps (quiet_through setting runs items g t lawful e quiet))
