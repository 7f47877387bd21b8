-- Lawful records make a chain of the runs that hold a group.
use Rattle.std.specs.Prelude.{◌≡◌, ◌≢◌, ℕ, ◌<◌, ◌==◌, ◌⊎◌, Bool, true, false, ◌&&◌, List, [], ◌∷◌, Option, Some, None, IsTrue, IsSomeAnd, cond, map, filter, find, fold, slice_get, option_map}
use Rattle.std.proofs.Common.{refl, sym, ap, ◌∙◌, subst, inl, inr, arith}
use Rattle.std.proofs.lemmas.Bool.{eq-eqb, eqb-true, ne_eqb}
use Rattle.dr_meaning.proofs.Elements.{pick}
use Rattle.dr_meaning.specs.Types.{Op, Estate, Plan, StartRow, Record}
use Rattle.dr_base.specs.Lists.{has}
use Rattle.dr_meaning.specs.Runs.{as_taken, Setting, Run, number, op, holds, is_finished, is_open, finish, group_state, last_of_group, run_at, run_named, take_in, take_over, protected_side, begin_run, add_record, runs_of}
use Rattle.dr_meaning.specs.Lawful.{IsPairRow, is_over_test, StartsFrom, takes_over, MayStart, MayCome, LawfulAfter, is_taken_over, number_or_0}
use Rattle.dr_meaning.proofs.Lists.{Each, each-map, each-find, each-of-map, find-passes, map-same, find-filter}
use Rattle.dr_model.proofs.LogLaws.{only_run}
use Rattle.dr_model.proofs.ExpectedLaws.{Falls, filter-map, filter-find, falls-filter, filter-take_in, take_in_own, take_in_other, holds-take_in}
use Rattle.dr_model.proofs.TableLaws.{IsTable, table-add_record, table_falls, open_is_last_of, start_take_over}
use Rattle.dr_model.proofs.PhaseLaws.{IsChain, StartsAt, chain_frames}
use Rattle.dr_meaning.specs.Phases.{IsAtRest, AtRest}
use Rattle.dr_outside.specs.Pairs.{Frame}
use Rattle.dr_meaning.specs.Expected.{ExpectedFrame}

-- the state after the runs that hold the group is the state after all
pub group_state-filter : (estate : Estate) (g : ℕ) (runs : List Run) → group_state estate g (filter (holds g) runs) ≡ group_state estate g runs
group_state-filter estate g [] = refl
group_state-filter estate g (r ∷ runs) = go (holds g r) refl (group_state-filter estate g runs)
  where
    go : (b : Bool) → holds g r ≡ b → group_state estate g (filter (holds g) runs) ≡ group_state estate g runs → group_state estate g (cond b (r ∷ filter (holds g) runs) (filter (holds g) runs)) ≡ cond (b && is_finished r) (finish (op r) r.start.plan (group_state estate g runs)) (group_state estate g runs)
    go true e ih = rw (ih, e) refl
    go false e ih = ih

-- Taking over changes no chain

pub finished_take_over : (row : StartRow) (r : Run) → is_finished (take_over row r) ≡ is_finished r
finished_take_over row r = go ((number r == row.over) && (r.by == 0))
  where
    go : (b : Bool) → is_finished (cond b (record r { by = row.run }) r) ≡ is_finished r
    go true = refl
    go false = refl

module _ (estate : Estate) (g : ℕ) (row : StartRow) where
  state_take_over : (hs : List Run) → group_state estate g (map (take_over row) hs) ≡ group_state estate g hs
  state_take_over [] = refl
  state_take_over (r ∷ hs) = go ((number r == row.over) && (r.by == 0)) (state_take_over hs)
    where
      go : (b : Bool) → group_state estate g (map (take_over row) hs) ≡ group_state estate g hs → group_state estate g (cond b (record r { by = row.run }) r ∷ map (take_over row) hs) ≡ group_state estate g (r ∷ hs)
      go true ih = rw ih refl
      go false ih = rw ih refl

  -- what stands before a run, some of it taken over
  pub starts_before : (r : Run) (hs : List Run) → StartsAt estate g r hs → StartsAt estate g r (map (take_over row) hs)
  starts_before r [] s = s
  starts_before r (q ∷ rest) (inl (fin, from)) = inl (finished_take_over row q ∙ fin, rw (state_take_over (q ∷ rest)) from)
  starts_before r (q ∷ rest) (inr (going, takes)) = inr (finished_take_over row q ∙ going, rw (start_take_over row q, op) takes)

  starts_itself : (r : Run) (n : ℕ) (hs : List Run) → StartsAt estate g r hs → StartsAt estate g (record r { by = n }) hs
  starts_itself r n [] s = s
  starts_itself r n (q ∷ rest) s = s

  chain_take_over : (hs : List Run) → IsChain estate g hs → IsChain estate g (map (take_over row) hs)
  chain_take_over [] c = tt
  chain_take_over (r ∷ hs) c = go ((number r == row.over) && (r.by == 0)) (chain_take_over hs c.3)
    where
      side : r.old ≡ (group_state estate g (map (take_over row) hs)).protected
      side = rw (state_take_over hs) c.1

      go : (b : Bool) → IsChain estate g (map (take_over row) hs) → IsChain estate g (cond b (record r { by = row.run }) r ∷ map (take_over row) hs)
      go true ih = (c.0, side, starts_itself r row.run _ (starts_before r hs c.2), ih)
      go false ih = (c.0, side, starts_before r hs c.2, ih)

pub holds-take_over : (g : ℕ) (row : StartRow) (r : Run) → holds g (take_over row r) ≡ holds g r
holds-take_over g row r = go ((number r == row.over) && (r.by == 0))
  where
    go : (b : Bool) → holds g (cond b (record r { by = row.run }) r) ≡ holds g r
    go true = refl
    go false = refl

-- A record of the last run changes no chain

chain_record : (estate : Estate) (g : ℕ) (r : Run) (item : Record) (earlier : List Run) → IsChain estate g (r ∷ earlier) → IsChain estate g (record r { log = item ∷ r.log } ∷ earlier)
chain_record estate g r item [] c = c
chain_record estate g r item (q ∷ rest) c = c

-- Each record

-- the run that stands last is not taken over
abbrev pub HeadFree : List Run → Type 0
HeadFree [] = Unit {0}
HeadFree (r ∷ earlier) = r.by ≡ 0

-- the runs that hold the group, and the plan of each run
pub record IsKeptFor (setting : Setting) (g : ℕ) (runs : List Run) : Type 0 where
  pub chain : IsChain setting.estate g (filter (holds g) runs)
  pub free : HeadFree (filter (holds g) runs)

pub record HasPlan (setting : Setting) (r : Run) : Type 0 where
  pub plan : slice_get setting.plans r.start.plan ≡ Some r.plan
  pub groups : r.start.groups ≡ r.plan.groups
  pub estate : r.estate ≡ setting.estate
  pub reads : Each (IsPairRow r.start) r.start.pairs

kept-take_in : (setting : Setting) (g : ℕ) (runs : List Run) (item : Record) (r : Run) → IsTable runs → run_at (run_named item) runs ≡ Some r → is_open r ≡ true → IsKeptFor setting g runs → IsKeptFor setting g (map (take_in item) runs)
kept-take_in setting g runs item r t at_n going kept = go (holds g r) refl
  where
    own : number r ≡ run_named item
    own = eqb-true (number r) (run_named item) (find-passes (λ run. number run == run_named item) runs r at_n)

    after : (hs : List Run) → hs ≡ filter (holds g) (map (take_in item) runs) → IsChain setting.estate g hs → HeadFree hs → IsKeptFor setting g (map (take_in item) runs)
    after hs e c f = record { chain = subst (λ l. IsChain setting.estate g l) e c; free = subst HeadFree e f }

    go : (b : Bool) → holds g r ≡ b → IsKeptFor setting g (map (take_in item) runs)
    go true held =
        let (earlier, e) = filter-find (holds g) runs r (open_is_last_of (λ run. number run == run_named item) g r runs t at_n going held) in
        let down : Falls (r ∷ earlier) = rw e at (falls-filter (holds g) runs (table_falls runs t)) in
        let others : map (take_in item) earlier ≡ earlier = map-same (take_in item) earlier (each-map (λ q. number q < number r) (λ q. take_in item q ≡ q) (λ q lt. take_in_other item q (λ same. omega (arith, own))) earlier down.0) in
        let now : record r { log = item ∷ r.log } ∷ earlier ≡ filter (holds g) (map (take_in item) runs) =
        sym (filter-map (holds g) (take_in item) (holds-take_in g item) runs ∙ rw (e, take_in_own item r own, others) refl) in
        after (record r { log = item ∷ r.log } ∷ earlier) now (chain_record setting.estate g r item earlier (rw e at kept.chain)) (let free : HeadFree (r ∷ earlier) = rw e at kept.free in free)
    go false held =
        after (filter (holds g) runs)
        (sym (filter-take_in g item runs (each-map (λ q. number q ≡ run_named item → q ≡ r) (λ q. number q ≡ run_named item → holds g q ≡ false) (λ q same at_q. rw (same at_q) held) runs (only_run (run_named item) runs r (table_falls runs t) at_n))))
        kept.chain kept.free

-- the run that a Start takes over, if any
pub taken : (row : StartRow) (runs : List Run) (o : Option Run) → find (is_taken_over row) runs ≡ o → row.over ≡ number_or_0 o → (row.over ≡ 0) ⊎ ((q : Run) × (find (is_taken_over row) runs ≡ Some q) × (row.over ≡ number q))
taken row runs None e over = inl over
taken row runs (Some q) e over = inr (q, e, over)

-- an unfinished run that is not taken over is open
pub open_if : (r : Run) → is_finished r ≡ false → r.by ≡ 0 → is_open r ≡ true
open_if r e f = rw (e, eq-eqb r.by 0 f) refl

pub shut_if : (r : Run) → is_finished r ≡ true → is_open r ≡ true → ⊥
shut_if r e going = let wrong : false ≡ true = rw e at going in cc

pub and_left : (a b : Bool) → a && b ≡ true → a ≡ true
and_left true b e = refl
and_left false b e = absurd cc

pub and_right : (a b : Bool) → a && b ≡ true → b ≡ true
and_right true b e = e
and_right false b e = absurd cc

pub positive : (runs : List Run) → IsTable runs → Each (λ q. 0 < number q) runs
positive [] t = tt
positive (r ∷ earlier) t = (omega (arith, t.0), positive earlier t.2)

side_of : (setting : Setting) (runs : List Run) (groups : List ℕ) (g : ℕ) → Each (λ h. (group_state setting.estate h runs).protected ≡ protected_side setting groups runs) groups → has groups g ≡ true → protected_side setting groups runs ≡ (group_state setting.estate g runs).protected
side_of setting runs groups g h e = sym (pick (λ k. (group_state setting.estate k runs).protected ≡ protected_side setting groups runs) groups g h e)

-- the run that a Start takes over holds its groups
pub over_groups : (setting : Setting) (runs : List Run) (row : StartRow) (plan : Plan) → MayStart setting runs row plan → Each (HasPlan setting) runs → slice_get setting.plans row.plan ≡ Some plan → (q : Run) → find (is_taken_over row) runs ≡ Some q → q.start.groups ≡ row.groups
over_groups setting runs row plan may plans at_plan q e =
    let passes : is_open q && takes_over row.op (op q) && (q.start.plan == row.plan) ≡ true = find-passes (is_taken_over row) runs q e in
    let number_same : q.start.plan ≡ row.plan = eqb-true _ _ (and_right (is_open q && takes_over row.op (op q)) _ passes) in
    let own : HasPlan setting q = each-find (HasPlan setting) (is_taken_over row) runs q plans e in
    let same : Some q.plan ≡ Some plan = sym own.plan ∙ ap (λ k. slice_get setting.plans k) number_same ∙ at_plan in
    let plan_same : q.plan ≡ plan = cc in
    own.groups ∙ ap (λ p. p.groups) plan_same ∙ sym may.groups

-- what takes over nothing is asked for its phase
pub over_none : (o : Op) (over : ℕ) → over ≡ 0 → is_over_test o over ≡ false
over_none Op.Cleanup over e = rw e refl
over_none Op.Testing over e = refl
over_none Op.Migrate over e = refl
over_none Op.Failover over e = refl
over_none Op.Reprotect over e = refl

abbrev pub fresh_run : Setting → List Run → StartRow → Plan → Run
fresh_run setting runs row plan = record { start = row; estate = setting.estate; plan = plan; old = protected_side setting row.groups runs; log = []; took = option_map as_taken (run_at row.over runs); by = 0 }

module _ (setting : Setting) (runs : List Run) (row : StartRow) (plan : Plan) (g : ℕ) (may : MayStart setting runs row plan) (t : IsTable runs) (plans : Each (HasPlan setting) runs) (at_plan : slice_get setting.plans row.plan ≡ Some plan) (held : has row.groups g ≡ true) (kept : IsKeptFor setting g runs) where
  -- the run that is taken over is open, of the operation that may be, and holds the same groups
  pub over_is : (q : Run) → find (is_taken_over row) runs ≡ Some q → (is_open q ≡ true) × (takes_over row.op (op q) ≡ true) × (holds g q ≡ true)
  over_is q e =
      let passes : is_open q && takes_over row.op (op q) && (q.start.plan == row.plan) ≡ true = find-passes (is_taken_over row) runs q e in
      let both : is_open q && takes_over row.op (op q) ≡ true = and_left _ (q.start.plan == row.plan) passes in
      (and_left _ _ both, and_right (is_open q) _ both, ap (λ gs. has gs g) (over_groups setting runs row plan may plans at_plan q e) ∙ held)

  -- so it is the last run that holds the group
  pub over_is_last : (q : Run) → find (is_taken_over row) runs ≡ Some q → last_of_group g runs ≡ Some q
  over_is_last q e = let (going, takes, holds_it) = over_is q e in open_is_last_of (is_taken_over row) g q runs t e going holds_it

  from_phase : (hs : List Run) → filter (holds g) runs ≡ hs → row.over ≡ 0 → StartsFrom row.op row.plan (group_state setting.estate g hs)
  from_phase hs e none =
      let at_runs : StartsFrom row.op row.plan (group_state setting.estate g runs) = pick (λ k. StartsFrom row.op row.plan (group_state setting.estate k runs)) row.groups g (may.phases (over_none row.op row.over none)) held in
      subst (λ state. StartsFrom row.op row.plan state) (sym (group_state-filter setting.estate g runs) ∙ ap (λ l. group_state setting.estate g l) e) at_runs

  abbrev pub fresh : Run
  fresh = record { start = row; estate = setting.estate; plan = plan; old = protected_side setting row.groups runs; log = []; took = option_map as_taken (run_at row.over runs); by = 0 }

  pub starts_fresh : (hs : List Run) → filter (holds g) runs ≡ hs → StartsAt setting.estate g fresh hs
  starts_fresh [] e = go (taken row runs (find (is_taken_over row) runs) refl may.over)
    where
      go : (row.over ≡ 0) ⊎ ((q : Run) × (find (is_taken_over row) runs ≡ Some q) × (row.over ≡ number q)) → StartsFrom row.op row.plan (group_state setting.estate g [])
      go (inl none) = from_phase [] e none
      go (inr (q, f, over)) = let (earlier, some) = filter-find (holds g) runs q (over_is_last q f) in absurd (let wrong : q ∷ earlier ≡ [] = sym some ∙ e in cc)
  starts_fresh (q ∷ rest) e = go (is_finished q) refl (taken row runs (find (is_taken_over row) runs) refl may.over)
    where
      last : last_of_group g runs ≡ Some q
      last = find-filter (holds g) runs q rest e

      is_q : (p : Run) → find (is_taken_over row) runs ≡ Some p → p ≡ q
      is_q p f = let same : Some p ≡ Some q = sym (over_is_last p f) ∙ last in cc

      q_free : q.by ≡ 0
      q_free = let free : HeadFree (q ∷ rest) = rw e at kept.free in free

      blocked : is_finished q ≡ false → row.over ≡ 0 → ⊥
      blocked going none =
          let clear = each-find (λ run. is_open run ≡ true → number run ≢ row.over → Each (λ k. holds k run ≡ false) row.groups) (holds g) runs q may.free last in
          let above : 0 < number q = each-find (λ run. 0 < number run) (holds g) runs q (positive runs t) last in
          let no : holds g q ≡ false = pick (λ k. holds k q ≡ false) row.groups g (clear (open_if q going q_free) (λ same. omega arith)) held in
          let wrong : false ≡ true = sym no ∙ find-passes (holds g) runs q last in
          cc

      go : (b : Bool) → is_finished q ≡ b → (row.over ≡ 0) ⊎ ((p : Run) × (find (is_taken_over row) runs ≡ Some p) × (row.over ≡ number p)) → StartsAt setting.estate g fresh (q ∷ rest)
      go true fin (inl none) = inl (fin, from_phase (q ∷ rest) e none)
      go true fin (inr (p, f, over)) = absurd (shut_if q fin (subst (λ run. is_open run ≡ true) (is_q p f) (over_is p f).0))
      go false fin (inl none) = absurd (blocked fin none)
      go false fin (inr (p, f, over)) = inr (fin, subst (λ run. takes_over row.op (op run) ≡ true) (is_q p f) (over_is p f).1)

  pub old_fresh : fresh.old ≡ (group_state setting.estate g (filter (holds g) runs)).protected
  old_fresh = side_of setting runs row.groups g may.one_side held ∙ ap (λ state. state.protected) (sym (group_state-filter setting.estate g runs))

  -- a lawful Start keeps the chain of each group that it holds
  pub kept-start : IsKeptFor setting g (fresh ∷ map (take_over row) runs)
  kept-start =
      let hs = filter (holds g) runs in
      let shape : fresh ∷ map (take_over row) hs ≡ filter (holds g) (fresh ∷ map (take_over row) runs) =
      sym (rw held (ap (λ l. fresh ∷ l) (filter-map (holds g) (take_over row) (holds-take_over g row) runs))) in
      record {
        chain = subst (λ l. IsChain setting.estate g l) shape (
          held,
          old_fresh ∙ ap (λ state. state.protected) (sym (state_take_over setting.estate g row hs)),
          starts_before setting.estate g row fresh hs (starts_fresh hs refl),
          chain_take_over setting.estate g row hs kept.chain,
        );
        free = subst HeadFree shape refl;
      }

-- one number, one run
pub same_number : (runs : List Run) (p q : Run) → IsTable runs → (f h : Run → Bool) → find f runs ≡ Some p → find h runs ≡ Some q → number p ≡ number q → p ≡ q
same_number [] p q t f h ep eq e = absurd cc
same_number (r ∷ runs) p q t f h ep eq e = go (f r) (h r) refl refl (same_number runs p q t.2 f h)
  where
    below : (k : Run → Bool) (x : Run) → find k runs ≡ Some x → number x < number r
    below k x ex = each-find (λ y. number y < number r) k runs x (table_falls (r ∷ runs) t).0 ex

    go : (a b : Bool) → f r ≡ a → h r ≡ b → (find f runs ≡ Some p → find h runs ≡ Some q → number p ≡ number q → p ≡ q) → p ≡ q
    go true true ea eb rest =
        let at_p : Some r ≡ Some p = rw ea at ep in
        let at_q : Some r ≡ Some q = rw eb at eq in
        cc
    go true false ea eb rest =
        let at_p : Some r ≡ Some p = rw ea at ep in
        let is : r ≡ p = cc in
        let later : find h runs ≡ Some q = rw eb at eq in
        absurd (omega (arith, below h q later, ap number is))
    go false true ea eb rest =
        let at_q : Some r ≡ Some q = rw eb at eq in
        let is : r ≡ q = cc in
        let later : find f runs ≡ Some p = rw ea at ep in
        absurd (omega (arith, below f p later, ap number is))
    go false false ea eb rest = rest (rw ea at ep) (rw eb at eq) e

-- a Start of a run that doesn't hold the group
kept-start_elsewhere : (setting : Setting) (runs : List Run) (row : StartRow) (plan : Plan) (g : ℕ) → MayStart setting runs row plan → IsTable runs → Each (HasPlan setting) runs → slice_get setting.plans row.plan ≡ Some plan → has row.groups g ≡ false → IsKeptFor setting g runs → IsKeptFor setting g (fresh_run setting runs row plan ∷ map (take_over row) runs)
kept-start_elsewhere setting runs row plan g may t plans at_plan held kept =
    record {
      chain = subst (λ l. IsChain setting.estate g l) shape (chain_take_over setting.estate g row (filter (holds g) runs) kept.chain);
      free = subst HeadFree shape (still_free (filter (holds g) runs) refl kept.free);
    }
  where
    shape : map (take_over row) (filter (holds g) runs) ≡ filter (holds g) (fresh_run setting runs row plan ∷ map (take_over row) runs)
    shape = sym (rw held (filter-map (holds g) (take_over row) (holds-take_over g row) runs))

    not_over : (q : Run) (rest : List Run) → filter (holds g) runs ≡ q ∷ rest → number q ≡ row.over → ⊥
    not_over q rest e same = go (taken row runs (find (is_taken_over row) runs) refl may.over)
      where
        last : last_of_group g runs ≡ Some q
        last = find-filter (holds g) runs q rest e

        go : (row.over ≡ 0) ⊎ ((p : Run) × (find (is_taken_over row) runs ≡ Some p) × (row.over ≡ number p)) → ⊥
        go (inl none) = let above : 0 < number q = each-find (λ run. 0 < number run) (holds g) runs q (positive runs t) last in omega arith
        go (inr (p, f, over)) =
            let is : q ≡ p = same_number runs q p t (holds g) (is_taken_over row) last f (same ∙ over) in
            let its : has p.start.groups g ≡ true = subst (λ run. holds g run ≡ true) is (find-passes (holds g) runs q last) in
            let groups : p.start.groups ≡ row.groups = over_groups setting runs row plan may plans at_plan p f in
            let wrong : true ≡ false = sym its ∙ ap (λ gs. has gs g) groups ∙ held in
            cc

    still_free : (hs : List Run) → filter (holds g) runs ≡ hs → HeadFree hs → HeadFree (map (take_over row) hs)
    still_free [] e h = tt
    still_free (q ∷ rest) e h = rw (ne_eqb (number q) row.over (not_over q rest e)) h

-- every lawful record keeps plans and chains

plan_take_in : (setting : Setting) (item : Record) (q : Run) → HasPlan setting q → HasPlan setting (take_in item q)
plan_take_in setting item q h = go (number q == run_named item)
  where
    go : (b : Bool) → HasPlan setting (cond b (record q { log = item ∷ q.log }) q)
    go true = record { plan = h.plan; groups = h.groups; estate = h.estate; reads = h.reads }
    go false = h

plan_take_over : (setting : Setting) (row : StartRow) (q : Run) → HasPlan setting q → HasPlan setting (take_over row q)
plan_take_over setting row q h = go ((number q == row.over) && (q.by == 0))
  where
    go : (b : Bool) → HasPlan setting (cond b (record q { by = row.run }) q)
    go true = record { plan = h.plan; groups = h.groups; estate = h.estate; reads = h.reads }
    go false = h

pub open_run : (o : Option Run) (P : Run → Type 0) → IsSomeAnd o (λ run. IsTrue (is_open run) × P run) → (r : Run) × (o ≡ Some r) × (is_open r ≡ true)
open_run None P h = elim h [ ]
open_run (Some r) P h = (r, refl, h.0)

pub record IsWellKept (setting : Setting) (runs : List Run) : Type 0 where
  pub table : IsTable runs
  pub plans : Each (HasPlan setting) runs
  pub groups : (g : ℕ) → IsKeptFor setting g runs

kept-own : (setting : Setting) (runs : List Run) (item : Record) → IsWellKept setting runs → (r : Run) × (run_at (run_named item) runs ≡ Some r) × (is_open r ≡ true) → (IsTable (map (take_in item) runs)) → IsWellKept setting (map (take_in item) runs)
kept-own setting runs item h (r, at_n, going) table =
    record {
      table = table;
      plans = each-of-map (HasPlan setting) (take_in item) runs (each-map (HasPlan setting) (λ q. HasPlan setting (take_in item q)) (plan_take_in setting item) runs h.plans);
      groups = λ g. kept-take_in setting g runs item r h.table at_n going (h.groups g);
    }

kept-begin : (setting : Setting) (runs : List Run) (row : StartRow) (o : Option Plan) → slice_get setting.plans row.plan ≡ o → IsSomeAnd o (MayStart setting runs row) → IsWellKept setting runs → IsTable (begin_run setting row o runs) → IsWellKept setting (begin_run setting row o runs)
kept-begin setting runs row None e may h table = elim may [ ]
kept-begin setting runs row (Some plan) e may h table =
    record {
      table = table;
      plans = (record { plan = e; groups = may.groups; estate = refl; reads = may.reads }, each-of-map (HasPlan setting) (take_over row) runs (each-map (HasPlan setting) (λ q. HasPlan setting (take_over row q)) (plan_take_over setting row) runs h.plans));
      groups = λ g. go g (has row.groups g) refl;
    }
  where
    go : (g : ℕ) (b : Bool) → has row.groups g ≡ b → IsKeptFor setting g (fresh_run setting runs row plan ∷ map (take_over row) runs)
    go g true held = kept-start setting runs row plan g may h.table h.plans e held (h.groups g)
    go g false held = kept-start_elsewhere setting runs row plan g may h.table h.plans e held (h.groups g)

pub kept-add_record : (setting : Setting) (runs : List Run) (item : Record) → MayCome setting runs item → IsWellKept setting runs → IsWellKept setting (add_record setting runs item)
kept-add_record setting runs (Record.Estate bytes) may h = h
kept-add_record setting runs (Record.Start row) may h = kept-begin setting runs row (slice_get setting.plans row.plan) refl may h (table-add_record setting runs (Record.Start row) may h.table)
kept-add_record setting runs item may h = kept-own setting runs item h (open_run _ _ may) (table-add_record setting runs item may h.table)

pub kept-lawful : (setting : Setting) (runs : List Run) (records : List Record) → LawfulAfter setting runs records → IsWellKept setting runs → IsWellKept setting (fold (add_record setting) runs records)
kept-lawful setting runs [] l h = h
kept-lawful setting runs (item ∷ rest) l h = kept-lawful setting (add_record setting runs item) rest l.1 (kept-add_record setting runs item l.0 h)

-- In a lawful journal, a group that no open run holds has the frames of its state and no others.
pub frames_by_state : (setting : Setting) (records : List Record) (g : ℕ) (y : Frame) → LawfulAfter setting [] records → IsAtRest (filter (holds g) (runs_of setting records)) → ExpectedFrame setting.estate g (runs_of setting records) y → AtRest (group_state setting.estate g (runs_of setting records)) y
frames_by_state setting records g y lawful rest expected =
    let empty : IsWellKept setting [] = record { table = tt; plans = tt; groups = λ g. record { chain = tt; free = tt } } in
    let well = kept-lawful setting [] records lawful empty in
    let frames = (chain_frames setting.estate g (filter (holds g) (runs_of setting records)) (well.groups g).chain y expected).0 rest in
    subst (λ state. AtRest state y) (group_state-filter setting.estate g (runs_of setting records)) frames
