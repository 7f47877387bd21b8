-- The unfinished run before another, among those that hold a group, is the one that it took over.
use Rattle.std.specs.Prelude.{◌≡◌, ◌≢◌, ℕ, ◌<◌, ◌==◌, ◌⊎◌, Bool, true, false, ◌&&◌, List, [], ◌∷◌, Option, Some, None, IsSomeAnd, option_map, cond, map, filter, find, fold, slice_get}
use Rattle.std.proofs.Common.{refl, sym, ap, ◌∙◌, subst, inl, inr, arith}
use Rattle.std.proofs.lemmas.Bool.{eqb-true}
use Rattle.dr_meaning.proofs.Elements.{pick}
use Rattle.dr_meaning.specs.Types.{Plan, StartRow, Record}
use Rattle.dr_base.specs.Lists.{has}
use Rattle.dr_meaning.specs.Runs.{Setting, Run, number, holds, is_finished, is_open, last_of_group, run_at, run_named, take_in, take_over, as_taken, begin_run, add_record}
use Rattle.dr_meaning.specs.Lawful.{MayStart, MayCome, LawfulAfter, is_taken_over}
use Rattle.dr_meaning.proofs.Lists.{Each, each-map, each-find, find-passes, map-same, find-filter}
use Rattle.dr_model.proofs.LogLaws.{only_run}
use Rattle.dr_model.proofs.ExpectedLaws.{Falls, filter-map, filter-find, falls-filter, filter-take_in, take_in_own, take_in_other, holds-take_in}
use Rattle.dr_model.proofs.TableLaws.{IsTable, table_falls, open_is_last_of}
use Rattle.dr_model.proofs.ChainLaws.{IsWellKept, HeadFree, fresh_run, kept-add_record, open_run, taken, over_is_last, open_if, positive, holds-take_over, finished_take_over}
use Rattle.dr_model.proofs.NumberStart.{at_over}
use Rattle.dr_model.proofs.OrderStart.{any_pair}
use Rattle.dr_model.proofs.PostLaws.{empty_kept}

abbrev pub TakesIt : Run → List Run → Type 0
TakesIt r [] = Unit {0}
TakesIt r (q ∷ rest) = is_finished q ≡ false → r.took ≡ Some (as_taken q)

abbrev pub IsTookChain : List Run → Type 0
IsTookChain [] = Unit {0}
IsTookChain (r ∷ earlier) = TakesIt r earlier × IsTookChain earlier

abbrev pub TookFor : ℕ → List Run → Type 0
TookFor g runs = IsTookChain (filter (holds g) runs)

-- a record of the last run
took_record : (r : Run) (item : Record) (earlier : List Run) → IsTookChain (r ∷ earlier) → IsTookChain (record r { log = item ∷ r.log } ∷ earlier)
took_record r item [] c = c
took_record r item (q ∷ rest) c = c

took-take_in : (g : ℕ) (runs : List Run) (item : Record) (r : Run) → IsTable runs → run_at (run_named item) runs ≡ Some r → is_open r ≡ true → TookFor g runs → TookFor g (map (take_in item) runs)
took-take_in g runs item r t at_n going kept = go (holds g r) refl
  where
    own : number r ≡ run_named item
    own = eqb-true (number r) (run_named item) (find-passes (λ run. number run == run_named item) runs r at_n)

    go : (b : Bool) → holds g r ≡ b → TookFor g (map (take_in item) runs)
    go true held =
        let (earlier, e) = filter-find (holds g) runs r (open_is_last_of (λ run. number run == run_named item) g r runs t at_n going held) in
        let down : Falls (r ∷ earlier) = rw e at (falls-filter (holds g) runs (table_falls runs t)) in
        let others : map (take_in item) earlier ≡ earlier = map-same (take_in item) earlier (each-map (λ q. number q < number r) (λ q. take_in item q ≡ q) (λ q lt. take_in_other item q (λ same. omega (arith, own))) earlier down.0) in
        let now : record r { log = item ∷ r.log } ∷ earlier ≡ filter (holds g) (map (take_in item) runs) =
        sym (filter-map (holds g) (take_in item) (holds-take_in g item) runs ∙ rw (e, take_in_own item r own, others) refl) in
        subst IsTookChain now (took_record r item earlier (rw e at kept))
    go false held =
        subst IsTookChain
        (sym (filter-take_in g item runs (each-map (λ q. number q ≡ run_named item → q ≡ r) (λ q. number q ≡ run_named item → holds g q ≡ false) (λ q same at_q. rw (same at_q) held) runs (only_run (run_named item) runs r (table_falls runs t) at_n))))
        kept

-- being taken over

pub as_taken_over : (row : StartRow) (q : Run) → as_taken (take_over row q) ≡ as_taken q
as_taken_over row q = go ((number q == row.over) && (q.by == 0))
  where
    go : (b : Bool) → as_taken (cond b (record q { by = row.run }) q) ≡ as_taken q
    go true = refl
    go false = refl

pub took_take_over : (row : StartRow) (q : Run) → (take_over row q).took ≡ q.took
took_take_over row q = go ((number q == row.over) && (q.by == 0))
  where
    go : (b : Bool) → (cond b (record q { by = row.run }) q).took ≡ q.took
    go true = refl
    go false = refl

takes_over_it : (row : StartRow) (r : Run) (hs : List Run) → TakesIt r hs → TakesIt r (map (take_over row) hs)
takes_over_it row r [] h = tt
takes_over_it row r (q ∷ rest) h = λ going. h (sym (finished_take_over row q) ∙ going) ∙ ap Some (sym (as_taken_over row q))

itself_over : (row : StartRow) (r : Run) (hs : List Run) → TakesIt r hs → TakesIt (take_over row r) hs
itself_over row r [] h = tt
itself_over row r (q ∷ rest) h = λ going. took_take_over row r ∙ h going

took_over : (row : StartRow) (hs : List Run) → IsTookChain hs → IsTookChain (map (take_over row) hs)
took_over row [] c = tt
took_over row (r ∷ hs) c = (itself_over row r (map (take_over row) hs) (takes_over_it row r hs c.0), took_over row hs c.1)

-- a Start
module _ (setting : Setting) (runs : List Run) (well : IsWellKept setting runs) (row : StartRow) (plan : Plan) (g : ℕ) (may : MayStart setting runs row plan) (at_plan : slice_get setting.plans row.plan ≡ Some plan) (held : has row.groups g ≡ true) where
  fresh_takes : (hs : List Run) → filter (holds g) runs ≡ hs → TakesIt (fresh_run setting runs row plan) hs
  fresh_takes [] shape = tt
  fresh_takes (q ∷ rest) shape = λ going. go going (taken row runs (find (is_taken_over row) runs) refl may.over)
    where
      last : last_of_group g runs ≡ Some q
      last = find-filter (holds g) runs q rest shape

      go : is_finished q ≡ false → (row.over ≡ 0) ⊎ ((p : Run) × (find (is_taken_over row) runs ≡ Some p) × (row.over ≡ number p)) → option_map as_taken (run_at row.over runs) ≡ Some (as_taken q)
      go going (inl none) =
          let free : q.by ≡ 0 = let f : HeadFree (q ∷ rest) = rw shape at (well.groups g).free in f in
          let clear = each-find (λ run. is_open run ≡ true → number run ≢ row.over → Each (λ k. holds k run ≡ false) row.groups) (holds g) runs q may.free last in
          let above : 0 < number q = each-find (λ run. 0 < number run) (holds g) runs q (positive runs well.table) last in
          let clear_g : holds g q ≡ false = pick (λ k. holds k q ≡ false) row.groups g (clear (open_if q going free) (λ same. omega arith)) held in
          absurd (let wrong : false ≡ true = sym clear_g ∙ find-passes (holds g) runs q last in cc)
      go going (inr (p, f, over)) =
          let same : Some p ≡ Some q = sym (over_is_last setting runs row plan g may well.table well.plans at_plan held (well.groups g) p f) ∙ last in
          let is : p ≡ q = cc in
          ap (option_map as_taken) (at_over setting runs row plan g may well.table well.plans at_plan held (well.groups g) 0 any_pair p f over) ∙ ap (λ x. Some (as_taken x)) is

took-start : (setting : Setting) (runs : List Run) → IsWellKept setting runs → (row : StartRow) (o : Option Plan) → slice_get setting.plans row.plan ≡ o → IsSomeAnd o (MayStart setting runs row) → (g : ℕ) → TookFor g runs → TookFor g (begin_run setting row o runs)
took-start setting runs well row None at_plan may g h = h
took-start setting runs well row (Some plan) at_plan may g h = go (has row.groups g) refl
  where
    before : IsTookChain (filter (holds g) (map (take_over row) runs))
    before = rw (filter-map (holds g) (take_over row) (holds-take_over g row) runs) (took_over row (filter (holds g) runs) h)

    go : (b : Bool) → has row.groups g ≡ b → IsTookChain (cond (has row.groups g) (fresh_run setting runs row plan ∷ filter (holds g) (map (take_over row) runs)) (filter (holds g) (map (take_over row) runs)))
    go true held = rw held (
      rw (filter-map (holds g) (take_over row) (holds-take_over g row) runs) (takes_over_it row (fresh_run setting runs row plan) (filter (holds g) runs) (fresh_takes setting runs well row plan g may at_plan held (filter (holds g) runs) refl)),
      before,
    )
    go false none = rw none before

took-own : (setting : Setting) (runs : List Run) (item : Record) → IsWellKept setting runs → (r : Run) × (run_at (run_named item) runs ≡ Some r) × (is_open r ≡ true) → (g : ℕ) → TookFor g runs → TookFor g (map (take_in item) runs)
took-own setting runs item well (r, at_n, going) g h = took-take_in g runs item r well.table at_n going h

took-add_record : (setting : Setting) (runs : List Run) (item : Record) → MayCome setting runs item → IsWellKept setting runs → ((g : ℕ) → TookFor g runs) → (g : ℕ) → TookFor g (add_record setting runs item)
took-add_record setting runs (Record.Estate bytes) may well h g = h g
took-add_record setting runs (Record.Start row) may well h g = took-start setting runs well row (slice_get setting.plans row.plan) refl may g (h g)
took-add_record setting runs item may well h g = took-own setting runs item well (open_run _ _ may) g (h g)

took-from : (setting : Setting) (runs : List Run) (records : List Record) → LawfulAfter setting runs records → IsWellKept setting runs → ((g : ℕ) → TookFor g runs) → (g : ℕ) → TookFor g (fold (add_record setting) runs records)
took-from setting runs [] l well h g = h g
took-from setting runs (item ∷ rest) l well h g = took-from setting (add_record setting runs item) rest l.1 (kept-add_record setting runs item l.0 well) (took-add_record setting runs item l.0 well h) g

pub took-lawful : (setting : Setting) (records : List Record) → LawfulAfter setting [] records → (g : ℕ) → TookFor g (fold (add_record setting) [] records)
took-lawful setting records lawful = took-from setting [] records lawful (empty_kept setting) (λ g. tt)
