-- A lawful Start keeps the numbers of every pair, where the writes that it names were there.
use Rattle.std.specs.Prelude.{◌≡◌, ◌≢◌, ℕ, ◌<◌, ◌==◌, ◌⊎◌, Bool, true, false, ◌&&◌, List, [], ◌∷◌, Option, Some, None, IfSome, IsSomeAnd, option_map, cond, find, filter, map, slice_get}
use Rattle.std.proofs.Common.{refl, sym, ap, ◌∙◌, subst, inl, inr, arith}
use Rattle.std.proofs.lemmas.Bool.{eq-eqb, ne_eqb}
use Rattle.dr_meaning.proofs.Elements.{pick}
use Rattle.dr_meaning.specs.Types.{Op, Link, Pair, StartRow, Plan, Record, GroupState, Phase}
use Rattle.dr_base.specs.Sides.{other}
use Rattle.dr_outside.specs.Pairs.{frame_of}
use Rattle.dr_meaning.specs.Opening.{opening_frame}
use Rattle.dr_base.specs.Lists.{has}
use Rattle.dr_meaning.specs.Runs.{migration, migration_of, Setting, Run, TakenOver, number, op, new, root, holds, is_finished, is_open, group_state, last_of_group, run_at, take_over, as_taken, protected_side, begin_run, add_record}
use Rattle.dr_meaning.specs.Lawful.{MayCome, MayStart, takes_over, is_taken_over, StartsFrom}
use Rattle.dr_meaning.specs.Expected.{After, LeavesFrame, ExpectedFrame}
use Rattle.dr_meaning.specs.Fits.{ReadsAtMostIn, root_start, start_or, is_recovery, was_frozen_and_replicated, HoldsAll, IsSplitBy, IsSplitIn, FitsWrites, FitsNumbers, splits}
use Rattle.dr_meaning.proofs.Lists.{Each, each-find, find-passes, find-filter}
use Rattle.dr_model.proofs.TableLaws.{IsTable, table_falls}
use Rattle.dr_model.proofs.ExpectedLaws.{Falls, filter-find}
use Rattle.dr_model.proofs.PhaseLaws.{IsChain, StartsAt, Opens, chain_frames, after_unfinished}
use Rattle.dr_model.proofs.PostPhase.{migrate_of}
use Rattle.dr_model.proofs.ChainLaws.{IsWellKept, HeadFree, HasPlan, IsKeptFor, taken, positive, fresh_run, over_is, over_is_last, old_fresh, starts_fresh, holds-take_over, open_if, shut_if}
use Rattle.dr_model.proofs.NumberLaws.{find-map, if_some-map}

-- what is found is found by its number
pub run_at-found : (f : Run → Bool) (runs : List Run) (p : Run) → Falls runs → find f runs ≡ Some p → run_at (number p) runs ≡ Some p
run_at-found f [] p falls e = absurd cc
run_at-found f (q ∷ runs) p falls e = go (f q) refl (run_at-found f runs p falls.1)
  where
    go : (b : Bool) → f q ≡ b → (find f runs ≡ Some p → run_at (number p) runs ≡ Some p) → run_at (number p) (q ∷ runs) ≡ Some p
    go true own rest =
        let same : Some q ≡ Some p = rw own at e in
        let is : q ≡ p = cc in
        rw (eq-eqb (number q) (number p) (ap number is)) same
    go false own rest =
        let later : find f runs ≡ Some p = rw own at e in
        let below : number p < number q = each-find (λ x. number x < number q) f runs p falls.0 later in
        rw (ne_eqb (number q) (number p) (λ same. omega arith)) (rest later)

pub none_at_0 : (runs : List Run) → Each (λ q. 0 < number q) runs → run_at 0 runs ≡ None
none_at_0 [] h = refl
none_at_0 (q ∷ runs) h = rw (ne_eqb (number q) 0 (λ same. omega (arith, h.0))) (none_at_0 runs h.1)

splits-take_over : (g : ℕ) (row : StartRow) (r : Run) → splits g (take_over row r) ≡ splits g r
splits-take_over g row r = go ((number r == row.over) && (r.by == 0))
  where
    go : (b : Bool) → splits g (cond b (record r { by = row.run }) r) ≡ splits g r
    go true = refl
    go false = refl

split-take_over : (k : ℕ) (pair : Pair) (row : StartRow) (r : Run) → IsSplitIn k pair r → IsSplitIn k pair (take_over row r)
split-take_over k pair row r h = go ((number r == row.over) && (r.by == 0))
  where
    go : (b : Bool) → IsSplitIn k pair (cond b (record r { by = row.run }) r)
    go true = h
    go false = h

writes-take_over : (k : ℕ) (pair : Pair) (row : StartRow) (r : Run) → FitsWrites k pair r → FitsWrites k pair (take_over row r)
writes-take_over k pair row r h = go ((number r == row.over) && (r.by == 0))
  where
    go : (b : Bool) → FitsWrites k pair (cond b (record r { by = row.run }) r)
    go true = record { since_start = h.since_start; since_migration = h.since_migration; tested = h.tested; replicated = h.replicated; kept_all = h.kept_all; kept_all_before = h.kept_all_before; reversed = h.reversed }
    go false = h

-- the last run that holds the group is the last that splits, where it is a migration or failover
pub splits_last : (g : ℕ) (runs : List Run) (p : Run) → last_of_group g runs ≡ Some p → is_recovery (op p) ≡ true → find (splits g) runs ≡ Some p
splits_last g [] p e is = absurd cc
splits_last g (q ∷ runs) p e is = go (holds g q) refl (λ later. splits_last g runs p later is)
  where
    go : (b : Bool) → holds g q ≡ b → (last_of_group g runs ≡ Some p → find (splits g) runs ≡ Some p) → find (splits g) (q ∷ runs) ≡ Some p
    go true held rest =
        let same : Some q ≡ Some p = rw held at e in
        let it : q ≡ p = cc in
        let recovers : is_recovery (op q) ≡ true = ap (λ r. is_recovery (op r)) it ∙ is in
        rw (held, recovers) same
    go false held rest = rw held (rest (rw held at e))

-- only a failover has a migration before it
migration-if : (o : Op) (took : Option TakenOver) (P : TakenOver → Type 0) → (o ≡ Op.Failover → IfSome took P) → IfSome (migration_of o took) P
migration-if Op.Failover took P h = h refl
migration-if Op.Testing took P h = tt
migration-if Op.Cleanup took P h = tt
migration-if Op.Migrate took P h = tt
migration-if Op.Reprotect took P h = tt

takes_recovery : (o oq : Op) → takes_over o oq ≡ true → is_recovery o ≡ true → (o ≡ Op.Failover) × (oq ≡ Op.Migrate)
takes_recovery Op.Failover oq takes e = (refl, migrate_of oq takes)
takes_recovery Op.Testing oq takes e = absurd cc
takes_recovery Op.Cleanup oq takes e = absurd cc
takes_recovery Op.Migrate oq takes e = absurd cc
takes_recovery Op.Reprotect oq takes e = absurd cc

recovers_from_ready : (o : Op) (plan : ℕ) (state : GroupState) → is_recovery o ≡ true → StartsFrom o plan state → state.phase ≡ Phase.Ready
recovers_from_ready Op.Migrate plan state e from = from
recovers_from_ready Op.Failover plan state e from = from
recovers_from_ready Op.Testing plan state e from = absurd cc
recovers_from_ready Op.Cleanup plan state e from = absurd cc
recovers_from_ready Op.Reprotect plan state e from = absurd cc

module _ (setting : Setting) (runs : List Run) (row : StartRow) (plan : Plan) (g : ℕ) (may : MayStart setting runs row plan) (t : IsTable runs) (plans : Each (HasPlan setting) runs) (at_plan : slice_get setting.plans row.plan ≡ Some plan) (held : has row.groups g ≡ true) (kept : IsKeptFor setting g runs) (k : ℕ) (pair : Pair) where
  abbrev pub started : Run
  started = fresh_run setting runs row plan

  -- the run that it takes over, if any
  abbrev TakesOver : Type 0
  TakesOver = (row.over ≡ 0) ⊎ ((q : Run) × (find (is_taken_over row) runs ≡ Some q) × (row.over ≡ number q))

  pub same_old : (q : Run) → find (is_taken_over row) runs ≡ Some q → q.old ≡ protected_side setting row.groups runs
  same_old q f =
      let (rest, e) = filter-find (holds g) runs q (over_is_last setting runs row plan g may t plans at_plan held kept q f) in
      let chain : IsChain setting.estate g (q ∷ rest) = rw e at kept.chain in
      let going : is_finished q ≡ false = unfin (is_finished q) refl (over_is setting runs row plan g may t plans at_plan held kept q f).0 in
      chain.1 ∙ ap (λ state. state.protected) (sym (after_unfinished setting.estate g q rest going) ∙ ap (λ l. group_state setting.estate g l) (sym e)) ∙ sym (old_fresh setting runs row plan g may t plans at_plan held kept)
    where
      unfin : (b : Bool) → is_finished q ≡ b → is_open q ≡ true → is_finished q ≡ false
      unfin true fin going = absurd (shut_if q fin going)
      unfin false fin going = fin

  pub at_over : (q : Run) → find (is_taken_over row) runs ≡ Some q → row.over ≡ number q → run_at row.over runs ≡ Some q
  at_over q f over = rw over (run_at-found (is_taken_over row) runs q (table_falls runs t) f)

  pub last_is : (q : Run) → find (is_taken_over row) runs ≡ Some q → last_of_group g runs ≡ Some q
  last_is q f = over_is_last setting runs row plan g may t plans at_plan held kept q f

  pub took_facts : (q : Run) → find (is_taken_over row) runs ≡ Some q → takes_over row.op (op q) ≡ true
  took_facts q f = (over_is setting runs row plan g may t plans at_plan held kept q f).1

  from_migration : (P : TakenOver → Type 0) → ((q : Run) → find (is_taken_over row) runs ≡ Some q → op q ≡ Op.Migrate → P (as_taken q)) → TakesOver → IfSome (migration started) P
  from_migration P each took = migration-if row.op (option_map as_taken (run_at row.over runs)) P (go took)
    where
      go : TakesOver → row.op ≡ Op.Failover → IfSome (option_map as_taken (run_at row.over runs)) P
      go (inl none) e = rw (none, none_at_0 runs (positive runs t)) tt
      go (inr (q, f, over)) e = rw (at_over q f over) (each q f (migrate_of (op q) (let takes : takes_over Op.Failover (op q) ≡ true = rw e at (took_facts q f) in takes)))

  module _ (h : FitsNumbers runs g k pair) where
    last_fits : (q : Run) → find (is_taken_over row) runs ≡ Some q → FitsWrites k pair q
    last_fits q f = rw (last_is q f) at h.writes

    start_writes : TakesOver → ReadsAtMostIn k pair (protected_side setting row.groups runs) row → FitsWrites k pair started
    start_writes took reads = record {
      since_start = reads;
      since_migration = from_migration (λ taken. ReadsAtMostIn k pair started.old taken.start) (λ q f m. subst (λ old. ReadsAtMostIn k pair old q.start) (same_old q f) (last_fits q f).since_start) took;
      tested = λ e done. absurd cc;
      replicated = λ e done. absurd cc;
      kept_all = λ e done. absurd cc;
      kept_all_before = from_migration (λ taken. was_frozen_and_replicated taken ≡ true → HoldsAll started.old pair) (λ q f m done. subst (λ old. HoldsAll old pair) (same_old q f) ((last_fits q f).kept_all (rw m refl) done)) took;
      reversed = λ e done. absurd cc;
    }

    split_fresh : is_recovery row.op ≡ true → (row.over ≡ 0 → pair.link ≡ Link.Live) → pair.link ≡ Link.Split → TakesOver → IsSplitIn k pair started
    split_fresh e live split (inl none) = absurd (let wrong : Link.Live ≡ Link.Split = sym (live none) ∙ split in cc)
    split_fresh e live split (inr (q, f, over)) =
        let (fails, migrates) = takes_recovery row.op (op q) (took_facts q f) e in
        let by_q : IsSplitIn k pair q = rw (splits_last g runs q (last_is q f) (rw migrates refl)) at (h.split split) in
        let above : 0 < number q = each-find (λ r. 0 < number r) (is_taken_over row) runs q (positive runs t) f in
        let same_new : new q ≡ new started = ap other (same_old q f) in
        let same_root : root q ≡ root started = rw (migrates, fails, over, ne_eqb (number q) 0 (λ same. omega arith)) refl in
        let same_start : root_start q ≡ root_start started =
        ap (λ o. start_or q.start (migration_of o q.took)) migrates
        ∙ sym (ap (λ o. start_or row (migration_of o (option_map as_taken (run_at row.over runs)))) fails ∙ ap (λ (x : Option Run). start_or row (option_map as_taken x)) (at_over q f over)) in
        subst (λ s. IsSplitBy k pair (new started) (root started) s) same_start
        (subst (λ n. IsSplitBy k pair (new started) n (root_start q)) same_root
        (subst (λ s. IsSplitBy k pair s (root q) (root_start q)) same_new by_q))

    start_split : (is_recovery row.op ≡ true → row.over ≡ 0 → pair.link ≡ Link.Live) → TakesOver → pair.link ≡ Link.Split → IfSome (find (splits g) (started ∷ map (take_over row) runs)) (IsSplitIn k pair)
    start_split live took split = go (is_recovery row.op) refl
      where
        go : (b : Bool) → is_recovery row.op ≡ b → IfSome (find (splits g) (started ∷ map (take_over row) runs)) (IsSplitIn k pair)
        go true e = rw (held, e) (split_fresh e (live e) split took)
        go false e = rw (held, e, find-map (splits g) (take_over row) (splits-take_over g row) runs) (if_some-map (IsSplitIn k pair) (IsSplitIn k pair) (take_over row) (find (splits g) runs) (λ q f s. split-take_over k pair row q s) (h.split split))

    -- a run that holds the group
    pub numbers-start_if : (is_recovery row.op ≡ true → row.over ≡ 0 → pair.link ≡ Link.Live) → ReadsAtMostIn k pair (protected_side setting row.groups runs) row → FitsNumbers (started ∷ map (take_over row) runs) g k pair
    numbers-start_if live reads =
        let took = taken row runs (find (is_taken_over row) runs) refl may.over in
        record {
          live = h.live;
          split = start_split live took;
          writes = rw held (start_writes took reads);
        }

  -- a migration, or a failover that takes over none, finds the pair Live
  live_if : is_recovery row.op ≡ true → row.over ≡ 0 → ExpectedFrame setting.estate g runs (frame_of pair) → pair.link ≡ Link.Live
  live_if e none expected = go (filter (holds g) runs) refl kept.chain (starts_fresh setting runs row plan g may t plans at_plan held kept (filter (holds g) runs) refl) kept.free expected
    where
      blocked : (q : Run) (rest : List Run) → filter (holds g) runs ≡ q ∷ rest → is_finished q ≡ false → q.by ≡ 0 → ⊥
      blocked q rest shape going free =
          let last : last_of_group g runs ≡ Some q = find-filter (holds g) runs q rest shape in
          let clear = each-find (λ run. is_open run ≡ true → number run ≢ row.over → Each (λ h. holds h run ≡ false) row.groups) (holds g) runs q may.free last in
          let above : 0 < number q = each-find (λ run. 0 < number run) (holds g) runs q (positive runs t) last in
          let no : holds g q ≡ false = pick (λ h. holds h q ≡ false) row.groups g (clear (open_if q going free) (λ same. omega arith)) held in
          let wrong : false ≡ true = sym no ∙ find-passes (holds g) runs q last in
          cc

      go : (hs : List Run) → filter (holds g) runs ≡ hs → IsChain setting.estate g hs → StartsAt setting.estate g started hs → HeadFree hs → After (Opens setting.estate g) LeavesFrame hs (frame_of pair) → pair.link ≡ Link.Live
      go [] shape chain from free opening = ap (λ f. f.link) opening
      go (q ∷ rest) shape chain (inl (fin, from)) free expected =
          let at_rest = (chain_frames setting.estate g (q ∷ rest) chain (frame_of pair) expected).0 fin in
          let ready = recovers_from_ready row.op row.plan (group_state setting.estate g (q ∷ rest)) e from in
          let opening : frame_of pair ≡ opening_frame (group_state setting.estate g (q ∷ rest)).protected = rw ready at at_rest in
          ap (λ f. f.link) opening
      go (q ∷ rest) shape chain (inr (going, takes)) free expected = absurd (blocked q rest shape going free)

-- A lawful Start keeps the numbers of each pair with an expected frame, where it names no more writes than the pair has.
pub numbers-start : (setting : Setting) (runs : List Run) → IsWellKept setting runs → (row : StartRow) → MayCome setting runs (Record.Start row) → (g k : ℕ) (pair : Pair) → ExpectedFrame setting.estate g runs (frame_of pair) → (has row.groups g ≡ true → ReadsAtMostIn k pair (protected_side setting row.groups runs) row) → FitsNumbers runs g k pair → FitsNumbers (add_record setting runs (Record.Start row)) g k pair
numbers-start setting runs well row may g k pair expected reads h = go (slice_get setting.plans row.plan) refl may
  where
    go : (o : Option Plan) → slice_get setting.plans row.plan ≡ o → IsSomeAnd o (MayStart setting runs row) → FitsNumbers (begin_run setting row o runs) g k pair
    go None at_plan m = elim m [ ]
    go (Some plan) at_plan m = held (has row.groups g) refl
      where
        held : (b : Bool) → has row.groups g ≡ b → FitsNumbers (fresh_run setting runs row plan ∷ map (take_over row) runs) g k pair
        held true holds_it =
            numbers-start_if setting runs row plan g m well.table well.plans at_plan holds_it (well.groups g) k pair h
            (λ e none. live_if setting runs row plan g m well.table well.plans at_plan holds_it (well.groups g) k pair e none expected) (reads holds_it)
        held false none = record {
          live = h.live;
          split = λ e. rw (none, find-map (splits g) (take_over row) (splits-take_over g row) runs) (if_some-map (IsSplitIn k pair) (IsSplitIn k pair) (take_over row) (find (splits g) runs) (λ q f s. split-take_over k pair row q s) (h.split e));
          writes = rw (none, find-map (holds g) (take_over row) (holds-take_over g row) runs) (if_some-map (FitsWrites k pair) (FitsWrites k pair) (take_over row) (last_of_group g runs) (λ q f w. writes-take_over k pair row q w) h.writes);
        }
