-- Changes in a row: what changed while some records came, and then while more came, changed while all of them came.
use Rattle.std.specs.Prelude.{◌≡◌, ℕ, ◌<◌, ◌≤◌, ◌⊎◌, false, List, [], ◌∷◌, ◌++◌, Option, Some, None}
use Rattle.std.proofs.Common.{refl, sym, ◌∙◌, inl, inr, subst, arith}
use Rattle.dr_groups.specs.Groups.{IsPairOf}
use Rattle.dr_outside.specs.BySide.{at}
use Rattle.dr_outside.proofs.Drifts.{Drift-refl, Drift-trans}
use Rattle.dr_meaning.specs.Types.{Side, StartRow, Record}
use Rattle.dr_meaning.specs.Worlds.{World}
use Rattle.dr_meaning.specs.Runs.{Setting, Run}
use Rattle.dr_meaning.specs.Journals.{Stands}
use Rattle.dr_meaning.specs.Changes.{IsMachineCommand, IsStepCommand, last_reverse, is_reversing, least_of, least_at, ChangesWorld, OnlyDrifts, ChangedBy}
use Rattle.dr_meaning.proofs.Lists.{Each}
use Rattle.dr_model.proofs.FitsDrift.{writes_rise}
use Rattle.dr_model.proofs.GrowsOn.{but_of, but_trans, grows_same, grows_trans}
use Rattle.dr_model.proofs.MoreRecords.{among_right, changes_among, changes_records}
use Rattle.dr_model.proofs.Reversed.{IsKnown, least_through}
use Rattle.dr_model.proofs.Standing.{table_of, known_of, Before, before_of}

-- By drift alone -------------------------------------------------------------------------------------------------

pub only_refl : (a : World) → OnlyDrifts a a
only_refl a = record { pair_count = refl; machine_count = refl; pairs = λ p. Drift-refl (a.pair p); posts = λ m. refl; kept = λ m. refl; runner = refl }

pub only_trans : (a b c : World) → OnlyDrifts a b → OnlyDrifts b c → OnlyDrifts a c
only_trans a b c d e = record {
  pair_count = e.pair_count ∙ d.pair_count;
  machine_count = e.machine_count ∙ d.machine_count;
  pairs = λ p. Drift-trans (a.pair p) (b.pair p) (c.pair p) (d.pairs p) (e.pairs p);
  posts = λ m. e.posts m ∙ d.posts m;
  kept = λ m. e.kept m ∙ d.kept m;
  runner = e.runner ∙ d.runner;
}

-- what drifts changes by any records
pub only_changes : (setting : Setting) (runs : List Run) (more : List Record) (a b : World) → OnlyDrifts a b → ChangesWorld setting runs more a b
only_changes setting runs more a b d = record {
  idle_pairs = λ p idle. d.pairs p;
  idle_posts = λ m idle. d.posts m;
  tested_pairs = λ g p of_group there tested. but_of (a.pair p) (b.pair p) (d.pairs p);
  tested_posts = λ g m of_group tested. rw (d.posts m) refl;
  pair_count = d.pair_count;
  machine_count = d.machine_count;
  kept = λ m. grows_same (IsMachineCommand runs m) (a.kept m) (b.kept m) (d.kept m);
  runner = grows_same (IsStepCommand runs) a.runner b.runner d.runner;
}

-- Two changes in a row -----------------------------------------------------------------------------------------------

pub changes_trans : (setting : Setting) (runs : List Run) (more : List Record) (a b c : World) → ChangesWorld setting runs more a b → ChangesWorld setting runs more b c → ChangesWorld setting runs more a c
changes_trans setting runs more a b c p q = record {
  idle_pairs = λ k idle. Drift-trans (a.pair k) (b.pair k) (c.pair k) (p.idle_pairs k idle) (q.idle_pairs k idle);
  idle_posts = λ m idle. q.idle_posts m idle ∙ p.idle_posts m idle;
  tested_pairs = λ g k of_group there tested.
      but_trans (a.pair k) (b.pair k) (c.pair k) (p.tested_pairs g k of_group there tested) (q.tested_pairs g k of_group (subst (λ n. k < n) (sym p.pair_count) there) tested);
  tested_posts = λ g m of_group tested. q.tested_posts g m of_group tested ∙ p.tested_posts g m of_group tested;
  pair_count = q.pair_count ∙ p.pair_count;
  machine_count = q.machine_count ∙ p.machine_count;
  kept = λ m. grows_trans (IsMachineCommand runs m) (a.kept m) (b.kept m) (c.kept m) (p.kept m) (q.kept m);
  runner = grows_trans (IsStepCommand runs) a.runner b.runner c.runner p.runner q.runner;
}

nil_left : (xs ys : List Record) → xs ++ ys ≡ [] → xs ≡ []
nil_left [] ys e = refl
nil_left (x ∷ xs) ys e = absurd cc

nil_right : (xs ys : List Record) → xs ++ ys ≡ [] → ys ≡ []
nil_right [] ys e = e
nil_right (x ∷ xs) ys e = absurd cc

pub each_right : (P : Record → Type 0) (xs ys : List Record) → Each P (xs ++ ys) → Each P ys
each_right P [] ys h = h
each_right P (x ∷ xs) ys h = each_right P xs ys h.1

-- the least writes follow what drifts
least_rises : (p was now : ℕ) (o : Option StartRow) → was ≤ now → least_of p was o ≤ least_of p now o
least_rises p was now None le = le
least_rises p was now (Some row) le = omega arith

-- of the outside at a moment between, where records came before and after
module _ (had more items : List Record) (a b : World) (changed : ChangedBy (had ++ more) more a b) (setting : Setting) (runs : List Run) (s : Stands setting ((had ++ more) ++ items) runs) where
  -- what changed before the last records goes on by all
  pub changes_first : ChangesWorld setting runs (more ++ items) a b
  changes_first = go (before_of setting (had ++ more) items runs s)
    where
      go : (had ++ more ≡ []) ⊎ Before setting (had ++ more) items runs → ChangesWorld setting runs (more ++ items) a b
      go (inl none) = only_changes setting runs (more ++ items) a b (changed.empty none)
      go (inr it) =
          subst (λ l. ChangesWorld setting l (more ++ items) a b) (sym it.are)
          (changes_records setting it.before more items a b (changed.by_runs setting it.before it.stand))

  -- the least writes by all records are at most the least by the last ones
  pub least_first : (g p : ℕ) (side : Side) → IsPairOf setting.estate g p → p < a.pair_count → is_reversing g runs ≡ false → least_at g p runs (more ++ items) a side ≤ least_at g p runs items b side
  least_first g p side of_group there quiet = go (before_of setting (had ++ more) items runs s)
    where
      go : (had ++ more ≡ []) ⊎ Before setting (had ++ more) items runs → least_at g p runs (more ++ items) a side ≤ least_at g p runs items b side
      go (inl none) =
          subst (λ l. least_at g p runs (l ++ items) a side ≤ least_at g p runs items b side) (sym (nil_right had more none))
          (least_rises p _ _ (last_reverse g runs items) (writes_rise (a.pair p) (b.pair p) ((changed.empty none).pairs p) side))
      go (inr it) =
          subst (λ l. least_at g p l (more ++ items) a side ≤ least_at g p l items b side) (sym it.are)
          (least_through setting it.before more items g p side a b (table_of setting (had ++ more) it.before it.stand)
          (each_right (IsKnown it.before) had more (known_of setting (had ++ more) it.before it.stand)) it.lawful
          (λ before. changed.writes setting it.before it.stand g p side of_group there before)
          (subst (λ l. is_reversing g l ≡ false) it.are quiet))

-- two changes in a row are one
pub changed_on : (had more items : List Record) (a b c : World) → ChangedBy (had ++ more) more a b → ChangedBy ((had ++ more) ++ items) items b c → ChangedBy ((had ++ more) ++ items) (more ++ items) a c
changed_on had more items a b c p q = record {
  by_runs = λ setting runs s. changes_trans setting runs (more ++ items) a b c (changes_first had more items a b p setting runs s) (changes_among setting runs items (more ++ items) b c (among_right more items) (q.by_runs setting runs s));
  writes = λ setting runs s g k side of_group there quiet.
      let first = least_first had more items a b p setting runs s g k side of_group there quiet in
      let there_then : k < b.pair_count = subst (λ n. k < n) (sym (changes_first had more items a b p setting runs s).pair_count) there in
      let second = q.writes setting runs s g k side of_group there_then quiet in
      omega (arith, first, second);
  empty = λ none. only_trans a b c (p.empty (nil_left (had ++ more) items none)) (q.empty none);
}

-- no side's writes fall, where no reprotect is under way
abbrev pub Rises : Setting → List Run → World → World → Type 0
Rises setting runs b c = (g p : ℕ) (side : Side) → IsPairOf setting.estate g p → p < b.pair_count → is_reversing g runs ≡ false → (at side (b.pair p).content).writes ≤ (at side (c.pair p).content).writes

-- a change while no record comes
pub changed_step : (records more : List Record) (a b c : World) → ChangedBy records more a b → ((setting : Setting) (runs : List Run) → Stands setting records runs → ChangesWorld setting runs more b c × Rises setting runs b c) → (records ≡ [] → OnlyDrifts b c) → ChangedBy records more a c
changed_step records more a b c p step none = record {
  by_runs = λ setting runs s. changes_trans setting runs more a b c (p.by_runs setting runs s) (step setting runs s).0;
  writes = λ setting runs s g k side of_group there quiet.
      let first = p.writes setting runs s g k side of_group there quiet in
      let there_then : k < b.pair_count = subst (λ n. k < n) (sym (p.by_runs setting runs s).pair_count) there in
      let second = (step setting runs s).1 g k side of_group there_then quiet in
      omega (arith, first, second);
  empty = λ e. only_trans a b c (p.empty e) (none e);
}

-- and by drift alone
pub changed_drift : (records more : List Record) (a b c : World) → ChangedBy records more a b → OnlyDrifts b c → ChangedBy records more a c
changed_drift records more a b c p d = changed_step records more a b c p (λ setting runs s. (only_changes setting runs more b c d, λ g k side of_group there quiet. writes_rise (b.pair k) (c.pair k) (d.pairs k) side)) (λ e. d)

-- where no record came
pub changed_none : (had : List Record) (a b : World) → OnlyDrifts a b → ChangedBy (had ++ []) [] a b
changed_none had a b d = record {
  by_runs = λ setting runs s. only_changes setting runs [] a b d;
  writes = λ setting runs s g k side of_group there quiet. writes_rise (a.pair k) (b.pair k) (d.pairs k) side;
  empty = λ e. d;
}
