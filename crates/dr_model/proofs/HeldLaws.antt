-- A pair that a failover finds Split was split by the migration that it took over, which had replicated it whole.
use Rattle.std.specs.Prelude.{◌≡◌, ◌≢◌, ℕ, ◌<◌, ◌≤◌, ◌⊎◌, Bool, true, false, List, [], ◌∷◌, Some, find}
use Rattle.std.proofs.Common.{refl, sym, ap, ◌∙◌, inl, inr, arith, subst}
use Rattle.std.proofs.lemmas.Bool.{cases_lt, cases_eq}
use Rattle.dr_meaning.specs.Types.{GroupState, Op, Link, Pair, Estate, Phase}
use Rattle.dr_meaning.specs.declared.stage.StageKind.{StageKind}
use Rattle.dr_outside.specs.Pairs.{Frame, frame_of}
use Rattle.dr_meaning.specs.Opening.{opening_frame}
use Rattle.dr_meaning.specs.Stages.{stages, recovery, wind_down, stage_at}
use Rattle.dr_meaning.specs.Visits.{Visit, visits}
use Rattle.dr_meaning.specs.Runs.{Setting, Run, migration, migration_of, as_taken, op, stages_of, holds, is_finished, group_state, last_of_group}
use Rattle.dr_meaning.specs.Outcomes.{made_frame, FrameOutcome}
use Rattle.dr_meaning.specs.Reach.{Through, FrameStep, ReachFrame, stage_of}
use Rattle.dr_meaning.specs.Meaning.{same_kind, is_of_kind}
use Rattle.dr_meaning.specs.Expected.{After, LeavesFrame}
use Rattle.dr_meaning.specs.Lawful.{StartsFrom, takes_over}
use Rattle.dr_meaning.specs.InOrder.{is_start_up}
use Rattle.dr_meaning.specs.Fits.{is_visit_whole, is_done_whole, is_frozen_and_replicated, HoldsAll, FitsWrites, FitsPair}
use Rattle.dr_meaning.proofs.Lists.{Each, each-find, Some_of, some_of-right, some_of-map}
use Rattle.dr_model.proofs.StageLaws.{stage_from-each}
use Rattle.dr_model.proofs.ThroughLaws.{find-some_of}
use Rattle.dr_model.proofs.ExpectedLaws.{each-filter, filter-find}
use Rattle.dr_model.proofs.LogLaws.{DoneBefore}
use Rattle.dr_model.proofs.PhaseLaws.{incomplete_step, IsChain, StartsAt, Opens, chain_frames}
use Rattle.dr_model.proofs.PostPhase.{migrate_of}
use Rattle.dr_model.proofs.NumberLaws.{kind-same, ShowsDone}
use Rattle.dr_model.proofs.ShowLaws.{IsReplication, shows-held, shows-other}
use Rattle.dr_model.proofs.SequenceLaws.{IsInSequence, IsAhead, Visits_at}
use Rattle.dr_model.proofs.WaveOrder.{number_with}
use Rattle.dr_model.proofs.RankLaws.{not_reached, rank, none_below, ranked_numbers, stages_ranked, no_visit}
use Rattle.dr_model.proofs.CallFacts.{Within, IsWithin, stages_within}
use Rattle.dr_model.proofs.ChainLaws.{IsWellKept}
use Rattle.dr_model.proofs.TookLaws.{IsTookChain, TookFor}

-- without a Split no link changes, in an operation without Reverse

made_link : (r : Run) (kind : StageKind) (x : Frame) → op r ≢ Op.Reprotect → Within (op r) kind → same_kind kind StageKind.Split ≡ false → (made_frame r kind x).link ≡ x.link
made_link r StageKind.Reverse x ne within none = absurd (ne within)
made_link r StageKind.Split x ne within none = absurd cc
made_link r StageKind.TestStart x ne within none = refl
made_link r StageKind.TestStop x ne within none = refl
made_link r StageKind.Prepare x ne within none = refl
made_link r _ x ne within none = refl

abbrev pub NoSplit : Run → Visit → Type 0
NoSplit r u = is_of_kind StageKind.Split (stage_at (stages_of r) u.stage) ≡ false

pub link_kept : (r : Run) → op r ≢ Op.Reprotect → (vs : List Visit) → Each (NoSplit r) vs → (x y : Frame) → Through (FrameStep r) vs x y → y.link ≡ x.link
link_kept r ne [] none x y e = ap (λ f. f.link) e
link_kept r ne (v ∷ vs) none x y (mid, reach, step) = go (incomplete_step r v mid y step) (link_kept r ne vs none.1 x mid reach)
  where
    go : FrameOutcome r (stage_of r v).kind mid y → mid.link ≡ x.link → y.link ≡ x.link
    go (inl made) m = ap (λ f. f.link) made ∙ made_link r (stage_of r v).kind mid ne (stage_from-each (IsWithin (op r)) 1 (stages_of r) v.stage tt (stages_within r.plan (op r) r.start.forced)) none.0 ∙ m
    go (inr same) m = ap (λ f. f.link) same ∙ m

-- some visit has a Split, or none has
split_or_not : (r : Run) (vs : List Visit) → Each (NoSplit r) vs ⊎ Some_of (λ u. is_of_kind StageKind.Split (stage_at (stages_of r) u.stage) ≡ true) vs
split_or_not r [] = inl tt
split_or_not r (v ∷ vs) = go (is_of_kind StageKind.Split (stage_at (stages_of r) v.stage)) refl (split_or_not r vs)
  where
    go : (b : Bool) → is_of_kind StageKind.Split (stage_at (stages_of r) v.stage) ≡ b → Each (NoSplit r) vs ⊎ Some_of (λ u. is_of_kind StageKind.Split (stage_at (stages_of r) u.stage) ≡ true) vs → Each (NoSplit r) (v ∷ vs) ⊎ Some_of (λ u. is_of_kind StageKind.Split (stage_at (stages_of r) u.stage) ≡ true) (v ∷ vs)
    go true e rest = inr (inl e)
    go false e (inl none) = inl (e, none)
    go false e (inr some) = inr (inr some)

-- A migration that visited its Split has done what stands before it

module _ (q : Run) (sequence : IsInSequence q) (migrates : op q ≡ Op.Migrate) where
  a_split : (vs : List Visit) → Some_of (λ u. is_of_kind StageKind.Split (stage_at (stages_of q) u.stage) ≡ true) vs → (w : Visit) × Some_of (λ u. u ≡ w) vs × ((stage_at (stages_of q) w.stage).kind ≡ StageKind.Split)
  a_split [] some = elim some [ ]
  a_split (v ∷ vs) (inl e) = (v, inl refl, kind-same _ StageKind.Split e)
  a_split (v ∷ vs) (inr later) = let (w, among, kind) = a_split vs later in (w, inr among, kind)

  pick_of : (P : Visit → Type 0) (vs : List Visit) (w : Visit) → Each P vs → Some_of (λ u. u ≡ w) vs → P w
  pick_of P [] w h some = elim some [ ]
  pick_of P (v ∷ vs) w h (inl e) = subst P e h.0
  pick_of P (v ∷ vs) w h (inr later) = pick_of P vs w h.1 later

  ranked : (i j : ℕ) → 1 ≤ i → i < j → rank (stage_at (stages_of q) i).kind ≤ rank (stage_at (stages_of q) j).kind
  ranked i j above lt = ranked_numbers 1 (stages_of q) (stages_ranked q.plan q.start.op q.start.forced) i j above lt

  module _ (kind : StageKind) (low : rank kind < 5) (listed : Some_of (λ s. is_of_kind kind s ≡ true) (stages_of q)) where
    -- its number is lower
    lower : (w : Visit) → (stage_at (stages_of q) w.stage).kind ≡ StageKind.Split → (i : ℕ) → 1 ≤ i → (stage_at (stages_of q) i).kind ≡ kind → i < w.stage
    lower w split i above its = go (cases_lt i w.stage)
      where
        at_least : (w.stage < 1) ⊎ (1 ≤ w.stage) → 1 ≤ w.stage
        at_least (inl none) = absurd (let prompt = none_below 1 (stages_of q) w.stage none in let wrong : StageKind.Split ≡ StageKind.Prompt = sym split ∙ prompt in cc)
        at_least (inr le) = le

        apart : (w.stage ≡ i) ⊎ (w.stage ≡ i → ⊥) → w.stage ≤ i → i < w.stage
        apart (inl same) le = absurd (omega (arith, low, ap rank its, ap rank split, ap (λ n. rank (stage_at (stages_of q) n).kind) same))
        apart (inr ne) le = absurd (omega (arith, low, ap rank its, ap rank split, ranked w.stage i (at_least (cases_lt w.stage 1)) (omega arith)))

        go : (i < w.stage) ⊎ (w.stage ≤ i) → i < w.stage
        go (inl lt) = lt
        go (inr le) = apart (cases_eq w.stage i) le

    -- a visit of it isn't the last one
    not_head : (v : Visit) (earlier : List Visit) → visits q.log ≡ v ∷ earlier → (w : Visit) → Some_of (λ u. u ≡ w) (visits q.log) → (stage_at (stages_of q) w.stage).kind ≡ StageKind.Split → is_of_kind kind (stage_at (stages_of q) v.stage) ≡ false
    not_head v earlier shape w among split = go (is_of_kind kind (stage_at (stages_of q) v.stage)) refl
      where
        ahead : IsAhead (stages_of q) (v ∷ earlier)
        ahead = subst (IsAhead (stages_of q)) shape sequence.ahead

        go : (b : Bool) → is_of_kind kind (stage_at (stages_of q) v.stage) ≡ b → is_of_kind kind (stage_at (stages_of q) v.stage) ≡ false
        go false e = e
        go true e = absurd (where_is (subst (Some_of (λ u. u ≡ w)) shape among))
          where
            its : (stage_at (stages_of q) v.stage).kind ≡ kind
            its = kind-same _ kind e

            not_start : (stage_at (stages_of q) v.stage).kind ≢ StageKind.Start
            not_start f = omega (arith, low, ap rank its, ap rank f)

            from_one : (w.stage < 1) ⊎ (1 ≤ w.stage) → 1 ≤ w.stage
            from_one (inl none) = absurd (let prompt = none_below 1 (stages_of q) w.stage none in let wrong : StageKind.Split ≡ StageKind.Prompt = sym split ∙ prompt in cc)
            from_one (inr le) = le

            where_is : Some_of (λ u. u ≡ w) (v ∷ earlier) → ⊥
            where_is (inl same) = omega (arith, low, ap rank its, ap rank split, ap (λ u. rank (stage_at (stages_of q) u.stage).kind) same)
            where_is (inr later) =
                let lt : w.stage < v.stage = pick_of (λ u. u.stage < v.stage) earlier w (ahead.0 not_start) later in
                omega (arith, low, ap rank its, ap rank split, ranked w.stage v.stage (from_one (cases_lt w.stage 1)) lt)

    whole_before : Some_of (λ u. is_of_kind StageKind.Split (stage_at (stages_of q) u.stage) ≡ true) (visits q.log) → is_done_whole q kind ≡ true
    whole_before some =
        let (w, among, split) = a_split (visits q.log) some in
        let (i, above, passes) = number_with (λ s. is_of_kind kind s ≡ true) 1 (stages_of q) listed in
        let its : (stage_at (stages_of q) i).kind ≡ kind = kind-same _ kind passes in
        let visited_i : Visits_at i (visits q.log) = pick_of (λ v. (j : ℕ) → 1 ≤ j → j < v.stage → Visits_at j (visits q.log)) (visits q.log) w sequence.filled among i above (lower w split i above its) in
        let (u, found) = find-some_of (λ u. is_of_kind kind (stage_at (stages_of q) u.stage)) (visits q.log) (some_of-map (λ u. u.stage ≡ i) (λ u. is_of_kind kind (stage_at (stages_of q) u.stage) ≡ true) (λ u e. rw e passes) (visits q.log) visited_i) in
        by_visit u found (visits q.log) refl w among split
      where
        by_visit : (u : Visit) → find (λ u. is_of_kind kind (stage_at (stages_of q) u.stage)) (visits q.log) ≡ Some u → (vs : List Visit) → visits q.log ≡ vs → (w : Visit) → Some_of (λ u. u ≡ w) (visits q.log) → (stage_at (stages_of q) w.stage).kind ≡ StageKind.Split → is_done_whole q kind ≡ true
        by_visit u found [] shape w among split = elim (subst (Some_of (λ u. u ≡ w)) shape among) [ ]
        by_visit u found (v ∷ earlier) shape w among split =
            let head : is_of_kind kind (stage_at (stages_of q) v.stage) ≡ false = not_head v earlier shape w among split in
            let in_whole : find (λ u. is_of_kind kind (stage_at (stages_of q) u.stage)) (v ∷ earlier) ≡ Some u = subst (λ vs. find (λ u. is_of_kind kind (stage_at (stages_of q) u.stage)) vs ≡ Some u) shape found in
            let in_earlier : find (λ u. is_of_kind kind (stage_at (stages_of q) u.stage)) earlier ≡ Some u = rw head at in_whole in
            let done : u.done ≡ true = each-find (λ x. x.done ≡ true) (λ u. is_of_kind kind (stage_at (stages_of q) u.stage)) earlier u (subst DoneBefore shape sequence.gone.before) in_earlier in
            let none : u.excused ≡ [] = each-find (λ x. x.excused ≡ []) (λ u. is_of_kind kind (stage_at (stages_of q) u.stage)) (visits q.log) u (sequence.gone.none_excused (λ e. let wrong : Op.Migrate ≡ Op.Failover = sym migrates ∙ e in absurd cc)) found in
            ap is_visit_whole found ∙ rw (done, none) refl

  its_list : stages_of q ≡ recovery q.plan
  its_list = ap (λ o. stages q.plan o q.start.forced) migrates

  pub split_is_whole : Some_of (λ u. is_of_kind StageKind.Split (stage_at (stages_of q) u.stage) ≡ true) (visits q.log) → is_frozen_and_replicated q ≡ true
  split_is_whole some =
      rw (whole_before StageKind.Prepare (omega arith) (rw its_list (inr (some_of-right (λ s. is_of_kind StageKind.Prepare s ≡ true) (wind_down StageKind.Stop q.plan) _ (inl refl)))) some)
      (whole_before StageKind.FinalSync (omega arith) (rw its_list (inr (some_of-right (λ s. is_of_kind StageKind.FinalSync s ≡ true) (wind_down StageKind.Stop q.plan) _ (inr (inl refl))))) some)

-- The failover

ready_if : (o : Op) (n : ℕ) (state : GroupState) → is_start_up o ≡ true → StartsFrom o n state → state.phase ≡ Phase.Ready
ready_if Op.Testing n state e from = from
ready_if Op.Migrate n state e from = from
ready_if Op.Failover n state e from = from
ready_if Op.Cleanup n state e from = absurd cc
ready_if Op.Reprotect n state e from = absurd cc

migrate_takes_none : (oq : Op) → takes_over Op.Migrate oq ≡ true → ⊥
migrate_takes_none oq e = cc

module _ (estate : Estate) (g : ℕ) where
  -- the frame that a migration starts from
  opens_live : (q : Run) (rest : List Run) → op q ≡ Op.Migrate → IsChain estate g (q ∷ rest) → (x : Frame) → After (Opens estate g) LeavesFrame rest x → x.link ≡ Link.Live
  opens_live q [] migrates chain x opening = ap (λ f. f.link) opening
  opens_live q (p ∷ rest) migrates chain x before = go chain.2
    where
      go : StartsAt estate g q (p ∷ rest) → x.link ≡ Link.Live
      go (inl (fin, from)) =
          let phase : (group_state estate g (p ∷ rest)).phase ≡ Phase.Ready = ready_if (op q) q.start.plan _ (rw migrates refl) from in
          let at_rest = (chain_frames estate g (p ∷ rest) chain.3 x before).0 fin in
          let opening : x ≡ opening_frame (group_state estate g (p ∷ rest)).protected = rw phase at at_rest in
          ap (λ f. f.link) opening
      go (inr (going, takes)) = absurd (migrate_takes_none (op p) (subst (λ o. takes_over o (op p) ≡ true) migrates takes))

  -- a frame that is Split before the failover was split by the migration
  split_by_migration : (r : Run) (earlier : List Run) → op r ≡ Op.Failover → IsChain estate g (r ∷ earlier) → IsTookChain (r ∷ earlier) → Each IsInSequence earlier → (x : Frame) → After (Opens estate g) LeavesFrame earlier x → x.link ≡ Link.Split → (q : Run) × (r.took ≡ Some (as_taken q)) × (is_frozen_and_replicated q ≡ true)
  split_by_migration r [] fails chain took ordered x opening split = absurd (let wrong : Link.Live ≡ Link.Split = sym (ap (λ f. f.link) opening) ∙ split in cc)
  split_by_migration r (q ∷ rest) fails chain took ordered x before split = go chain.2
    where
      of_visits : is_finished q ≡ false → op q ≡ Op.Migrate → Each (NoSplit q) (visits q.log) ⊎ Some_of (λ u. is_of_kind StageKind.Split (stage_at (stages_of q) u.stage) ≡ true) (visits q.log) → (p : Run) × (r.took ≡ Some (as_taken p)) × (is_frozen_and_replicated p ≡ true)
      of_visits going migrates (inr some) = (q, took.0 going, split_is_whole q ordered.0 migrates some)
      of_visits going migrates (inl none) =
          let (x0, before0, leaves) = before in
          let reach : ReachFrame q x0 x = rw going at leaves in
          let same : x.link ≡ x0.link = link_kept q (λ e. let wrong : Op.Migrate ≡ Op.Reprotect = sym migrates ∙ e in absurd cc) (visits q.log) none x0 x reach in
          let live : x0.link ≡ Link.Live = opens_live q rest migrates chain.3 x0 before0 in
          absurd (let wrong : Link.Split ≡ Link.Live = sym split ∙ same ∙ live in cc)

      go : StartsAt estate g r (q ∷ rest) → (p : Run) × (r.took ≡ Some (as_taken p)) × (is_frozen_and_replicated p ≡ true)
      go (inl (fin, from)) =
          let phase : (group_state estate g (q ∷ rest)).phase ≡ Phase.Ready = ready_if (op r) r.start.plan _ (rw fails refl) from in
          let at_rest = (chain_frames estate g (q ∷ rest) chain.3 x before).0 fin in
          let opening : x ≡ opening_frame (group_state estate g (q ∷ rest)).protected = rw phase at at_rest in
          absurd (let wrong : Link.Live ≡ Link.Split = sym (ap (λ f. f.link) opening) ∙ split in cc)
      go (inr (going, takes)) = of_visits going (migrate_of (op q) (subst (λ o. takes_over o (op q) ≡ true) fails takes)) (split_or_not q (visits q.log))

-- In a lawful journal: a pair that a failover finds Split before its own Split holds all writes of the old side, which is frozen.
module _ (setting : Setting) (runs : List Run) (well : IsWellKept setting runs) (ordered : Each IsInSequence runs) (g : ℕ) (took : TookFor g runs) (r : Run) (last : last_of_group g runs ≡ Some r) (going : is_finished r ≡ false) (fails : op r ≡ Op.Failover) (v : Visit) (earlier : List Visit) (shape : visits r.log ≡ v ∷ earlier) (low : rank (stage_of r v).kind < 5) (k : ℕ) (p : Pair) (fits : FitsPair setting.estate runs g k p) (split : p.link ≡ Link.Split) where
  pub held_by_migration : HoldsAll r.old p
  held_by_migration =
      let (rest, e) = filter-find (holds g) runs r last in
      let chain : IsChain setting.estate g (r ∷ rest) = rw e at (well.groups g).chain in
      let tooks : IsTookChain (r ∷ rest) = rw e at took in
      let order : Each IsInSequence (r ∷ rest) = rw e at (each-filter IsInSequence (holds g) runs ordered) in
      let (x, before, leaves) = rw e at fits.frame in
      let reach : ReachFrame r x (frame_of p) = rw going at leaves in
      let same : p.link ≡ x.link = link_kept r (λ f. let wrong : Op.Failover ≡ Op.Reprotect = sym fails ∙ f in absurd cc) (visits r.log) (no_visit r v earlier shape order.0 StageKind.Split low (λ f. cc)) x (frame_of p) reach in
      let (q, takes, whole) = split_by_migration setting.estate g r rest fails chain tooks order.1 x before (sym same ∙ split) in
      held q takes whole
    where
      writes : FitsWrites k p r
      writes = let w = fits.numbers.writes in rw last at w

      held : (q : Run) → r.took ≡ Some (as_taken q) → is_frozen_and_replicated q ≡ true → HoldsAll r.old p
      held q takes whole =
          let before : migration r ≡ Some (as_taken q) = ap (λ o. migration_of o r.took) fails ∙ takes in
          (rw before at writes.kept_all_before) whole

  -- so it shows what the Done of a replication asks for
  pub split_shows : ShowsDone k p r (stage_of r v).kind
  split_shows = shows-held k r (stage_of r v).kind p (rw fails refl) held_by_migration (let w = fits.numbers.writes in rw last at w)

-- Any other stage asks for nothing.
pub other_shows : (r : Run) (v : Visit) (earlier : List Visit) → visits r.log ≡ v ∷ earlier → IsInSequence r → (IsReplication (stage_of r v).kind → ⊥) → (k : ℕ) (p : Pair) → ShowsDone k p r (stage_of r v).kind
other_shows r v earlier shape sequence other k p = shows-other k r (stage_of r v).kind p other (λ e. not_reached r v earlier shape sequence StageKind.FinalSync (rw e (omega arith)) (λ f. cc))
