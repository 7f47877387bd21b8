-- What a run holds of the run that it took over stands in the journal still.
use Rattle.std.specs.Prelude.{◌≡◌, ◌≢◌, ℕ, ◌<◌, ◌==◌, ◌⊎◌, Bool, true, false, ◌&&◌, not, List, [], ◌∷◌, Option, Some, None, IsSomeAnd, option_map, cond, map, find, fold, slice_get}
use Rattle.std.proofs.Common.{refl, sym, ap, ◌∙◌, subst, inl, inr, arith}
use Rattle.std.proofs.lemmas.Bool.{eqb-true, eq-eqb, ne_eqb}
use Rattle.dr_meaning.specs.Types.{Plan, StartRow, Record}
use Rattle.dr_meaning.specs.Runs.{Setting, Run, number, is_finished, is_open, run_at, run_named, take_in, take_over, as_taken, begin_run, add_record, runs_of}
use Rattle.dr_meaning.specs.Lawful.{MayStart, MayCome, LawfulAfter, takes_over, is_taken_over}
use Rattle.dr_meaning.proofs.Lists.{Each, all_each, each-both, each-map, each-of-map, each-find, find-passes}
use Rattle.dr_model.proofs.TableLaws.{IsTable, table_falls, table-add_record, start_take_in, start_take_over}
use Rattle.dr_model.proofs.LogLaws.{only_run}
use Rattle.dr_model.proofs.ExpectedLaws.{take_in_other}
use Rattle.dr_model.proofs.NumberLaws.{find-map}
use Rattle.dr_model.proofs.NumberStart.{run_at-found, none_at_0}
use Rattle.dr_model.proofs.ChainLaws.{and_left, and_right, fresh_run, open_run, positive, taken}
use Rattle.dr_model.proofs.TookLaws.{as_taken_over, took_take_over}

-- the run took this one over, which names it
abbrev pub IsTakenBy : Run → Run → Type 0
IsTakenBy r q = (q.by ≡ number r) × (r.took ≡ Some (as_taken q))

-- what a run holds is what its Start names
pub record StandsBy (runs : List Run) (r : Run) : Type 0 where
  pub none : r.start.over ≡ 0 → r.took ≡ None
  pub some : r.start.over ≢ 0 → IsSomeAnd (run_at r.start.over runs) (IsTakenBy r)

-- A change that keeps each run that was taken over

module _ (f : Run → Run) (start : (q : Run) → (f q).start ≡ q.start) (took : (q : Run) → (f q).took ≡ q.took) (runs : List Run) (still : Each (λ q. q.by ≢ 0 → f q ≡ q) runs) where
  run_at-map : (n : ℕ) → run_at n (map f runs) ≡ option_map f (run_at n runs)
  run_at-map n = find-map (λ q. number q == n) f (λ q. ap (λ (s : StartRow). s.run == n) (start q)) runs

  stands-one : (r : Run) → (0 < number r) × StandsBy runs r → StandsBy (map f runs) (f r)
  stands-one r (above, h) = record {
    none = λ e. took r ∙ h.none (ap (λ (s : StartRow). s.over) (sym (start r)) ∙ e);
    some = λ ne. subst (λ o. IsSomeAnd o (IsTakenBy (f r))) (sym (ap (λ (s : StartRow). run_at s.over (map f runs)) (start r) ∙ run_at-map r.start.over)) (go (run_at r.start.over runs) refl (h.some (λ e. ne (ap (λ (s : StartRow). s.over) (start r) ∙ e))));
  }
    where
      go : (o : Option Run) → run_at r.start.over runs ≡ o → IsSomeAnd o (IsTakenBy r) → IsSomeAnd (option_map f o) (IsTakenBy (f r))
      go None e is = is
      go (Some q) e (by, same) =
          let kept : f q ≡ q = each-find (λ q. q.by ≢ 0 → f q ≡ q) (λ q. number q == r.start.over) runs q still e (λ z. omega (arith, above, by, z)) in
          subst (IsTakenBy (f r)) (sym kept) (by ∙ ap (λ (s : StartRow). s.run) (sym (start r)), took r ∙ same)

  stands-map : IsTable runs → Each (StandsBy runs) runs → Each (StandsBy (map f runs)) (map f runs)
  stands-map t h =
      each-of-map (StandsBy (map f runs)) f runs
      (each-map (λ r. (0 < number r) × StandsBy runs r) (λ r. StandsBy (map f runs) (f r)) stands-one runs
      (each-both (λ r. 0 < number r) (StandsBy runs) runs (positive runs t) h))

-- A record of an open run

stands-own : (runs : List Run) (item : Record) → IsTable runs → (r : Run) × (run_at (run_named item) runs ≡ Some r) × (is_open r ≡ true) → Each (StandsBy runs) runs → Each (StandsBy (map (take_in item) runs)) (map (take_in item) runs)
stands-own runs item t (r, at_n, going) h =
    stands-map (take_in item) (start_take_in item) took_in runs
    (each-map (λ q. number q ≡ run_named item → q ≡ r) (λ q. q.by ≢ 0 → take_in item q ≡ q) (λ q only named. take_in_other item q (λ at_q. named (ap (λ (p : Run). p.by) (only at_q) ∙ free))) runs
    (only_run (run_named item) runs r (table_falls runs t) at_n))
    t h
  where
    free : r.by ≡ 0
    free = eqb-true r.by 0 (and_right (not (is_finished r)) _ going)

    took_in : (q : Run) → (take_in item q).took ≡ q.took
    took_in q = go (number q == run_named item)
      where
        go : (b : Bool) → (cond b (record q { log = item ∷ q.log }) q).took ≡ q.took
        go true = refl
        go false = refl

-- A Start

stands-more : (r : Run) (rest : List Run) → Each (λ q. number q < number r) rest → (x : Run) → StandsBy rest x → StandsBy (r ∷ rest) x
stands-more r rest below x h = record { none = h.none; some = λ ne. go (run_at x.start.over rest) refl (h.some ne) }
  where
    go : (o : Option Run) → run_at x.start.over rest ≡ o → IsSomeAnd o (IsTakenBy x) → IsSomeAnd (run_at x.start.over (r ∷ rest)) (IsTakenBy x)
    go None e is = elim is [ ]
    go (Some q) e is =
        let lt : number q < number r = each-find (λ q. number q < number r) (λ q. number q == x.start.over) rest q below e in
        let at_q : number q ≡ x.start.over = eqb-true (number q) x.start.over (find-passes (λ q. number q == x.start.over) rest q e) in
        rw (ne_eqb (number r) x.start.over (λ same. omega (arith, lt, at_q, same)), e) is

still_over : (row : StartRow) (q : Run) → q.by ≢ 0 → take_over row q ≡ q
still_over row q named = go (number q == row.over)
  where
    go : (b : Bool) → cond (b && (q.by == 0)) (record q { by = row.run }) q ≡ q
    go true = rw (ne_eqb q.by 0 named) refl
    go false = refl

module _ (setting : Setting) (runs : List Run) (row : StartRow) (plan : Plan) (t : IsTable runs) (may : MayStart setting runs row plan) (now : IsTable (fresh_run setting runs row plan ∷ map (take_over row) runs)) where
  abbrev fresh : Run
  fresh = fresh_run setting runs row plan

  below : Each (λ q. number q < number fresh) (map (take_over row) runs)
  below = (table_falls (fresh ∷ map (take_over row) runs) now).0

  named_over : (q : Run) → number q ≡ row.over → is_open q ≡ true → (take_over row q).by ≡ row.run
  named_over q is going = rw (eq-eqb (number q) row.over is, and_right (not (is_finished q)) (q.by == 0) going) refl

  fresh_some : row.over ≢ 0 → IsSomeAnd (run_at row.over (map (take_over row) runs)) (IsTakenBy fresh)
  fresh_some ne = go (taken row runs (find (is_taken_over row) runs) refl may.over)
    where
      go : (row.over ≡ 0) ⊎ ((q : Run) × (find (is_taken_over row) runs ≡ Some q) × (row.over ≡ number q)) → IsSomeAnd (run_at row.over (map (take_over row) runs)) (IsTakenBy fresh)
      go (inl none) = absurd (ne none)
      go (inr (q, f, over)) =
          let passes : is_open q && takes_over row.op q.start.op && (q.start.plan == row.plan) ≡ true = find-passes (is_taken_over row) runs q f in
          let going : is_open q ≡ true = and_left _ _ (and_left _ (q.start.plan == row.plan) passes) in
          let at_q : run_at row.over runs ≡ Some q = ap (λ n. run_at n runs) over ∙ run_at-found (is_taken_over row) runs q (table_falls runs t) f in
          let at_now : run_at row.over (map (take_over row) runs) ≡ Some (take_over row q) = find-map (λ q. number q == row.over) (take_over row) (λ q. ap (λ (s : StartRow). s.run == row.over) (start_take_over row q)) runs ∙ ap (option_map (take_over row)) at_q in
          subst (λ o. IsSomeAnd o (IsTakenBy fresh)) (sym at_now) (named_over q (sym over) going, ap (option_map as_taken) at_q ∙ ap Some (sym (as_taken_over row q)))

  fresh_stands : StandsBy (map (take_over row) runs) fresh
  fresh_stands = record { none = λ e. ap (λ n. option_map as_taken (run_at n runs)) e ∙ ap (option_map as_taken) (none_at_0 runs (positive runs t)); some = fresh_some }

  stands-fresh : Each (StandsBy runs) runs → Each (StandsBy (fresh ∷ map (take_over row) runs)) (fresh ∷ map (take_over row) runs)
  stands-fresh h =
      each-map (StandsBy (map (take_over row) runs)) (StandsBy (fresh ∷ map (take_over row) runs)) (stands-more fresh (map (take_over row) runs) below) (fresh ∷ map (take_over row) runs)
      (fresh_stands, stands-map (take_over row) (start_take_over row) (took_take_over row) runs (all_each (λ q. q.by ≢ 0 → take_over row q ≡ q) (still_over row) runs) t h)

stands-start : (setting : Setting) (runs : List Run) (row : StartRow) → IsTable runs → (o : Option Plan) → IsSomeAnd o (MayStart setting runs row) → IsTable (begin_run setting row o runs) → Each (StandsBy runs) runs → Each (StandsBy (begin_run setting row o runs)) (begin_run setting row o runs)
stands-start setting runs row t None may now h = elim may [ ]
stands-start setting runs row t (Some plan) may now h = stands-fresh setting runs row plan t may now h

stands-add_record : (setting : Setting) (runs : List Run) (item : Record) → MayCome setting runs item → IsTable runs → Each (StandsBy runs) runs → Each (StandsBy (add_record setting runs item)) (add_record setting runs item)
stands-add_record setting runs (Record.Estate bytes) may t h = h
stands-add_record setting runs (Record.Start row) may t h = stands-start setting runs row t (slice_get setting.plans row.plan) may (table-add_record setting runs (Record.Start row) may t) h
stands-add_record setting runs item may t h = stands-own runs item t (open_run _ _ may) h

stands-from : (setting : Setting) (runs : List Run) (records : List Record) → LawfulAfter setting runs records → IsTable runs → Each (StandsBy runs) runs → Each (StandsBy (fold (add_record setting) runs records)) (fold (add_record setting) runs records)
stands-from setting runs [] l t h = h
stands-from setting runs (item ∷ rest) l t h = stands-from setting (add_record setting runs item) rest l.1 (table-add_record setting runs item l.0 t) (stands-add_record setting runs item l.0 t h)

-- In a lawful journal each run holds of the run that it took over what stands there.
pub stands-lawful : (setting : Setting) (records : List Record) (n : ℕ) (r : Run) → LawfulAfter setting [] records → run_at n (runs_of setting records) ≡ Some r → StandsBy (runs_of setting records) r
stands-lawful setting records n r lawful at_n = each-find (StandsBy (runs_of setting records)) (λ q. number q == n) (runs_of setting records) r (stands-from setting [] records lawful tt tt) at_n
