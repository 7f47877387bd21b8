-- A record that comes while nothing changes outside: a finished reprotect has left each side the writes that its Start read.
use Rattle.std.specs.Prelude.{◌≡◌, ℕ, ◌<◌, ◌≤◌, ◌==◌, ◌⊎◌, true, ◌&&◌, List, [], ◌∷◌, ◌++◌, Option, Some, None, IfSome, find, map, option_map}
use Rattle.std.proofs.Common.{refl, sym, ap, ◌∙◌, inl, inr, subst, arith}
use Rattle.std.proofs.lemmas.Bool.{eqb-true}
use Rattle.dr_base.specs.Sides.{other}
use Rattle.dr_groups.specs.Groups.{IsPairOf}
use Rattle.dr_outside.specs.BySide.{at}
use Rattle.dr_meaning.specs.Types.{Side, Op, Pair, StartPair, Record}
use Rattle.dr_meaning.specs.declared.stage.StageKind.{StageKind}
use Rattle.dr_meaning.specs.Worlds.{World}
use Rattle.dr_meaning.specs.Stages.{stages, stage_at, wind_down}
use Rattle.dr_meaning.specs.Visits.{visits}
use Rattle.dr_meaning.specs.Runs.{Setting, Run, number, op, holds, stages_of, is_open, run_at, last_of_group, with_record, take_in}
use Rattle.dr_meaning.specs.Meaning.{is_of_kind}
use Rattle.dr_meaning.specs.Lawful.{MayFinish, MayCome}
use Rattle.dr_meaning.specs.Fits.{pair_row, is_visit_whole, is_done_whole, ReadsAtMost, FitsWrites}
use Rattle.dr_meaning.specs.Journals.{Stands}
use Rattle.dr_meaning.specs.Sound.{IsSoundBy}
use Rattle.dr_meaning.specs.Changes.{is_reprotect, is_reverse, reversed_by, new_writes_of, least_of, least_at, ChangedBy}
use Rattle.dr_meaning.proofs.Lists.{Each, Some_of, each-find, find-passes, some_of-right, some_of-map}
use Rattle.dr_model.proofs.StageLaws.{done_number}
use Rattle.dr_model.proofs.ThroughLaws.{visited, find-some_of}
use Rattle.dr_model.proofs.WalkedLaws.{IsWhole, IsWalked}
use Rattle.dr_model.proofs.LogLaws.{IsGoneThrough, gone-lawful, finish_walked}
use Rattle.dr_model.proofs.TableLaws.{IsTable, open_is_last}
use Rattle.dr_model.proofs.ExpectedLaws.{take_in_own, holds-take_in}
use Rattle.dr_model.proofs.NumberLaws.{find-map}
use Rattle.dr_model.proofs.ChainLaws.{open_run, same_number, and_left, and_right}
use Rattle.dr_model.proofs.Reversed.{may_known, reversed_on}
use Rattle.dr_model.proofs.Standing.{table_of, Before, before_of}
use Rattle.dr_model.proofs.ChangedOn.{only_refl, only_changes}

-- A reprotect that may be finished has replicated back
final_done : (r : Run) → op r ≡ Op.Reprotect → IsWalked r → is_done_whole r StageKind.FinalSync ≡ true
final_done r e w =
    let (k, above, passes, done) = done_number (λ s. is_of_kind StageKind.FinalSync s ≡ true) r.log 1 (stages_of r) w.all_done listed in
    let (u, found) = find-some_of (λ u. is_of_kind StageKind.FinalSync (stage_at (stages_of r) u.stage)) (visits r.log) (some_of-map (λ v. v.stage ≡ k) (λ u. is_of_kind StageKind.FinalSync (stage_at (stages_of r) u.stage) ≡ true) (λ u e. rw e passes) (visits r.log) (visited k (visits r.log) done)) in
    let whole : IsWhole u = each-find IsWhole (λ u. is_of_kind StageKind.FinalSync (stage_at (stages_of r) u.stage)) (visits r.log) u w.whole found in
    ap is_visit_whole found ∙ rw (whole.done, whole.none) refl
  where
    listed : Some_of (λ s. is_of_kind StageKind.FinalSync s ≡ true) (stages_of r)
    listed = rw (ap (λ o. stages r.plan o r.start.forced) e) (some_of-right (λ s. is_of_kind StageKind.FinalSync s ≡ true) (wind_down StageKind.Clear r.plan) _ (inr (inr (inl refl))))

reprotect_is : (o : Op) → is_reprotect o ≡ true → o ≡ Op.Reprotect
reprotect_is Op.Testing e = absurd cc
reprotect_is Op.Cleanup e = absurd cc
reprotect_is Op.Migrate e = absurd cc
reprotect_is Op.Failover e = absurd cc
reprotect_is Op.Reprotect e = refl

pub either_side : (side old : Side) → (side ≡ old) ⊎ (side ≡ other old)
either_side Side.A Side.A = inl refl
either_side Side.A Side.B = inr refl
either_side Side.B Side.A = inr refl
either_side Side.B Side.B = inl refl

row_at_most : (o : Option StartPair) (n : ℕ) → IfSome o (λ row. row.new_writes ≤ n) → new_writes_of o ≤ n
row_at_most None n h = omega arith
row_at_most (Some row) n h = h

rows_new : (o : Option StartPair) (old : Side) (pair : Pair) → IfSome o (ReadsAtMost old pair) → new_writes_of o ≤ (at (other old) pair.content).writes
rows_new None old pair h = omega arith
rows_new (Some row) old pair h = h.new_side

-- what the numbers of a finished reprotect say of each side
left_at : (p : ℕ) (pair : Pair) (r : Run) (n moment : ℕ) (ms : List ℕ) (side : Side) → op r ≡ Op.Reprotect → is_done_whole r StageKind.FinalSync ≡ true → FitsWrites p pair (with_record r (Record.Finish n moment ms)) → new_writes_of (pair_row p r.start) ≤ (at side pair.content).writes
left_at p pair r n moment ms side back done w = go (either_side side r.old)
  where
    go : (side ≡ r.old) ⊎ (side ≡ other r.old) → new_writes_of (pair_row p r.start) ≤ (at side pair.content).writes
    go (inl same) = subst (λ s. new_writes_of (pair_row p r.start) ≤ (at s pair.content).writes) (sym same) (row_at_most (pair_row p r.start) (at r.old pair.content).writes (w.reversed back done))
    go (inr same) = subst (λ s. new_writes_of (pair_row p r.start) ≤ (at s pair.content).writes) (sym same) (rows_new (pair_row p r.start) r.old pair w.since_start)

module _ (setting : Setting) (records : List Record) (n moment : ℕ) (ms : List ℕ) (b : World) (before : List Run) (stand : Stands setting records before) (may : MayCome setting before (Record.Finish n moment ms)) (sound : IsSoundBy setting (map (take_in (Record.Finish n moment ms)) before) b) (g p : ℕ) (side : Side) (of_group : IsPairOf setting.estate g p) (there : p < b.pair_count) where
  table : IsTable before
  table = table_of setting records before stand

  gone_in : (r : Run) → run_at n before ≡ Some r → IsGoneThrough r
  gone_in r found =
      each-find IsGoneThrough (λ q. number q == n) before r
      (subst (λ l. Each IsGoneThrough l) (sym stand.runs_are) (gone-lawful setting [] stand.rest stand.lawful tt tt)) found

  of_run : (r : Run) → run_at n before ≡ Some r → is_open r ≡ true → MayFinish r ms → holds g r ≡ true → is_reprotect (op r) ≡ true → new_writes_of (pair_row p r.start) ≤ (at side (b.pair p).content).writes
  of_run r found going finish held is =
      let back : op r ≡ Op.Reprotect = reprotect_is (op r) is in
      let walked : IsWalked r = finish_walked r ms (gone_in r found) (λ f. let wrong : Op.Reprotect ≡ Op.Failover = sym back ∙ f in cc) finish in
      let own : number r ≡ n = eqb-true (number r) n (find-passes (λ q. number q == n) before r found) in
      let item : Record = Record.Finish n moment ms in
      let last : last_of_group g before ≡ Some r = open_is_last n g r before table found going held in
      let after : last_of_group g (map (take_in (Record.Finish n moment ms)) before) ≡ Some (with_record r (Record.Finish n moment ms)) =
      find-map (holds g) (take_in (Record.Finish n moment ms)) (holds-take_in g (Record.Finish n moment ms)) before ∙ ap (option_map (take_in (Record.Finish n moment ms))) last ∙ ap Some (take_in_own (Record.Finish n moment ms) r own) in
      let fits = (sound.pairs g p of_group there).numbers.writes in
      let its : FitsWrites p (b.pair p) (with_record r (Record.Finish n moment ms)) = subst (λ (o : Option Run). IfSome o (FitsWrites p (b.pair p))) after fits in
      left_at p (b.pair p) r n moment ms side back (final_done r back walked) its

  of_found : (q : Run) → find (is_reverse g n) before ≡ Some q → new_writes_of (pair_row p q.start) ≤ (at side (b.pair p).content).writes
  of_found q found =
      let (r, at_n, going) = open_run (run_at n before) (λ run. MayFinish run ms) may in
      let passes : (number q == n) && (holds g q && is_reprotect (op q)) ≡ true = find-passes (is_reverse g n) before q found in
      let number_q : number q ≡ n = eqb-true (number q) n (and_left (number q == n) _ passes) in
      let number_r : number r ≡ n = eqb-true (number r) n (find-passes (λ x. number x == n) before r at_n) in
      let is : r ≡ q = same_number before r q table (λ x. number x == n) (is_reverse g n) at_n found (number_r ∙ sym number_q) in
      let both : holds g q && is_reprotect (op q) ≡ true = and_right (number q == n) _ passes in
      let finish : MayFinish r ms = (rw at_n at may).1 in
      subst (λ (x : Run). new_writes_of (pair_row p x.start) ≤ (at side (b.pair p).content).writes) is
      (of_run r at_n going finish
      (subst (λ (x : Run). holds g x ≡ true) (sym is) (and_left (holds g q) _ both))
      (subst (λ (x : Run). is_reprotect (op x) ≡ true) (sym is) (and_right (holds g q) _ both)))

  finish_least : least_of p (at side (b.pair p).content).writes (option_map (λ (q : Run). q.start) (find (is_reverse g n) before)) ≤ (at side (b.pair p).content).writes
  finish_least = go (find (is_reverse g n) before) refl
    where
      go : (o : Option Run) → find (is_reverse g n) before ≡ o → least_of p (at side (b.pair p).content).writes (option_map (λ (q : Run). q.start) o) ≤ (at side (b.pair p).content).writes
      go None found = omega arith
      go (Some q) found = of_found q found

-- while a record comes, an outside that is sound with it needn't change
pub changed_stay : (records : List Record) (item : Record) (b : World) → ((setting : Setting) (runs : List Run) → Stands setting (records ++ item ∷ []) runs → IsSoundBy setting runs b) → ChangedBy (records ++ item ∷ []) (item ∷ []) b b
changed_stay records item b sound = record {
  by_runs = λ setting runs s. only_changes setting runs (item ∷ []) b b (only_refl b);
  writes = λ setting runs s g p side of_group there quiet. go item setting runs s (sound setting runs s) g p side of_group there (before_of setting records (item ∷ []) runs s);
  empty = λ none. only_refl b;
}
  where
    go : (item : Record) (setting : Setting) (runs : List Run) → Stands setting (records ++ item ∷ []) runs → IsSoundBy setting runs b → (g p : ℕ) (side : Side) → IsPairOf setting.estate g p → p < b.pair_count
        → (records ≡ []) ⊎ Before setting records (item ∷ []) runs → least_at g p runs (item ∷ []) b side ≤ (at side (b.pair p).content).writes
    go (Record.Finish n moment ms) setting runs s sound g p side of_group there (inl none) =
        absurd (let wrong : Record.Finish n moment ms ∷ [] ≡ Record.Estate s.bytes ∷ s.rest = ap (λ l. l ++ Record.Finish n moment ms ∷ []) (sym none) ∙ s.are in cc)
    go (Record.Finish n moment ms) setting runs s sound g p side of_group there (inr it) =
        let same : runs ≡ map (take_in (Record.Finish n moment ms)) it.before = it.are in
        let reversed : reversed_by g runs (Record.Finish n moment ms) ≡ reversed_by g it.before (Record.Finish n moment ms) =
        ap (λ l. reversed_by g l (Record.Finish n moment ms)) same ∙ reversed_on setting it.before (Record.Finish n moment ms) (Record.Finish n moment ms) g it.lawful.0 (may_known setting it.before (Record.Finish n moment ms) (table_of setting records it.before it.stand) it.lawful.0) in
        subst (λ o. least_of p (at side (b.pair p).content).writes o ≤ (at side (b.pair p).content).writes) (sym reversed)
        (finish_least setting records n moment ms b it.before it.stand it.lawful.0 (subst (λ l. IsSoundBy setting l b) same sound) g p side of_group there)
    go item setting runs s sound g p side of_group there it = omega arith
