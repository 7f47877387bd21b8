-- A pair that the begun stage's call leaves out is made already, and shows what the stage's Done asks for.
use Rattle.std.specs.Prelude.{◌≡◌, ◌≢◌, ℕ, ◌<◌, ◌≤◌, ◌⊎◌, Bool, true, false, List, [], ◌∷◌, Option, Some, None, find, option_map}
use Rattle.std.proofs.Common.{refl, sym, ap, ◌∙◌, inl, inr, arith, subst}
use Rattle.std.proofs.lemmas.Bool.{cases_lt, cases_eq}
use Rattle.dr_base.specs.Sides.{other}
use Rattle.dr_outside.specs.BySide.{at, put}
use Rattle.dr_outside.specs.Pairs.{Frame, frame_of, Drift}
use Rattle.dr_meaning.specs.Types.{Side, Sides, Op, Link, Snapshot, Pair, Estate, Phase}
use Rattle.dr_meaning.specs.declared.stage.StageKind.{StageKind}
use Rattle.dr_meaning.specs.Opening.{opening_frame}
use Rattle.dr_meaning.specs.Stages.{stages, wind_down, stage_at}
use Rattle.dr_meaning.specs.Visits.{Visit, visits}
use Rattle.dr_meaning.specs.Runs.{Setting, Run, new, op, stages_of, holds, is_finished, group_state, last_of_group}
use Rattle.dr_meaning.specs.Outcomes.{made_frame}
use Rattle.dr_meaning.specs.Reach.{FrameStep, ReachFrame, stage_of}
use Rattle.dr_meaning.specs.Meaning.{is_of_kind}
use Rattle.dr_meaning.specs.Expected.{After, LeavesFrame}
use Rattle.dr_meaning.specs.Lawful.{StartsFrom}
use Rattle.dr_meaning.specs.InOrder.{is_start_up}
use Rattle.dr_meaning.specs.Fits.{is_recovery, is_visit_whole, is_done_whole, FitsPair}
use Rattle.dr_meaning.specs.Calls.{IsLeftOut}
use Rattle.dr_meaning.proofs.Lists.{Each, Some_of, all_each, each-find, each-map, find-passes, some_of-map, some_of-right}
use Rattle.dr_model.proofs.StageLaws.{stage_from-each}
use Rattle.dr_model.proofs.ThroughLaws.{Makes, through_from, some_of-find, find-some_of}
use Rattle.dr_model.proofs.WholeMigrate.{at-put, at_other-put}
use Rattle.dr_model.proofs.WholeSkips.{frame_holds, complete_makes}
use Rattle.dr_model.proofs.ExpectedLaws.{filter-find}
use Rattle.dr_model.proofs.LogLaws.{DoneBefore}
use Rattle.dr_model.proofs.PhaseLaws.{IsChain, StartsAt, Opens, chain_frames, after_unfinished}
use Rattle.dr_model.proofs.NumberLaws.{kind-same, ShowsDone}
use Rattle.dr_model.proofs.SequenceLaws.{IsInSequence, IsFilled, Visits_at}
use Rattle.dr_model.proofs.ChainLaws.{IsWellKept}
use Rattle.dr_model.proofs.WaveOrder.{number_with}
use Rattle.dr_model.proofs.RankLaws.{rank, ranked_numbers, stages_ranked, none_below, no_visit}
use Rattle.dr_model.proofs.OrderStart.{start_up_takes}
use Rattle.dr_model.proofs.CallFacts.{Within, IsWithin, stages_within, ready_from, through_frame, split_at_old}
use Rattle.dr_model.proofs.ShowLaws.{IsReplication, starts_recovery}
use Rattle.dr_model.proofs.HeldLaws.{NoSplit, link_kept, split_shows, other_shows}
use Rattle.dr_model.proofs.TookLaws.{TookFor}

-- what is left out is so after a drift
pub left_out_drifts : (run : Run) (kind : StageKind) (p q : Pair) → Drift p q → IsLeftOut run kind p → IsLeftOut run kind q
left_out_drifts run StageKind.Sync p q d e = ap (λ f. f.link) d.frame ∙ e
left_out_drifts run StageKind.FinalSync p q d e = ap (λ f. f.link) d.frame ∙ e
left_out_drifts run StageKind.TestStart p q d e = ap (λ f. f.snapshot) d.frame ∙ e
left_out_drifts run StageKind.TestStop p q d e = d.snapshot ∙ e
left_out_drifts run StageKind.Prepare p q d e = ap (λ f. at run.old f.writable) d.frame ∙ e
left_out_drifts run StageKind.Split p q d e = ap (λ f. f.link) d.frame ∙ e
left_out_drifts run StageKind.Reverse p q d e = ap (λ f. f.source) d.frame ∙ e
left_out_drifts run _ p q d e = e

-- and only then
pub left_out_before : (run : Run) (kind : StageKind) (p q : Pair) → Drift p q → IsLeftOut run kind q → IsLeftOut run kind p
left_out_before run StageKind.Sync p q d e = sym (ap (λ f. f.link) d.frame) ∙ e
left_out_before run StageKind.FinalSync p q d e = sym (ap (λ f. f.link) d.frame) ∙ e
left_out_before run StageKind.TestStart p q d e = sym (ap (λ f. f.snapshot) d.frame) ∙ e
left_out_before run StageKind.TestStop p q d e = sym d.snapshot ∙ e
left_out_before run StageKind.Prepare p q d e = sym (ap (λ f. at run.old f.writable) d.frame) ∙ e
left_out_before run StageKind.Split p q d e = sym (ap (λ f. f.link) d.frame) ∙ e
left_out_before run StageKind.Reverse p q d e = sym (ap (λ f. f.source) d.frame) ∙ e
left_out_before run _ p q d e = e

-- Frames

put_same : (side : Side) (x : Bool) (w : Sides Bool) → at side w ≡ x → put side x w ≡ w
put_same Side.A x w e = λ i. record { a = sym e i; b = w.b }
put_same Side.B x w e = λ i. record { a = w.a; b = sym e i }

-- the frame is made, where a Split pair is writable at the new side, and one from the new side is Live
made_already : (run : Run) (kind : StageKind) (q : Pair) → (kind ≡ StageKind.Split → q.link ≡ Link.Split → at (new run) q.writable ≡ true) → (kind ≡ StageKind.Reverse → q.source ≡ new run → q.link ≡ Link.Live) → IsLeftOut run kind q → made_frame run kind (frame_of q) ≡ frame_of q
made_already run StageKind.TestStart q opened live e = λ i. record { source = q.source; link = q.link; writable = q.writable; snapshot = sym e i }
made_already run StageKind.TestStop q opened live e = λ i. record { source = q.source; link = q.link; writable = q.writable; snapshot = option_map (λ (s : Snapshot). s.run) (sym e i) }
made_already run StageKind.Prepare q opened live e = λ i. record { source = q.source; link = q.link; writable = put_same run.old false q.writable e i; snapshot = (frame_of q).snapshot }
made_already run StageKind.Split q opened live e = λ i. record { source = q.source; link = sym e i; writable = put_same (new run) true q.writable (opened refl e) i; snapshot = (frame_of q).snapshot }
made_already run StageKind.Reverse q opened live e = λ i. record { source = sym e i; link = sym (live refl e) i; writable = q.writable; snapshot = (frame_of q).snapshot }
made_already run _ q opened live e = refl

not_both : (link : Link) → link ≡ Link.Live → link ≡ Link.Split → ⊥
not_both link live split = let wrong : Link.Live ≡ Link.Split = sym live ∙ split in cc

-- A Split pair is writable at the new side

abbrev OpenIfSplit : Side → Frame → Type 0
OpenIfSplit side x = x.link ≡ Link.Split → at side x.writable ≡ true

open_if_live : (side : Side) (x : Frame) → x.link ≡ Link.Live → OpenIfSplit side x
open_if_live side x live split = absurd (not_both x.link live split)

open_made : (r : Run) (kind : StageKind) (x : Frame) → OpenIfSplit (new r) x → OpenIfSplit (new r) (made_frame r kind x)
open_made r StageKind.Split x h e = at-put (new r) true x.writable
open_made r StageKind.Prepare x h e = at_other-put r.old false x.writable ∙ h e
open_made r StageKind.Reverse x h e = absurd (let wrong : Link.Live ≡ Link.Split = e in cc)
open_made r StageKind.TestStart x h e = h e
open_made r StageKind.TestStop x h e = h e
open_made r _ x h e = h e

open_through : (r : Run) (x y : Frame) → ReachFrame r x y → OpenIfSplit (new r) x → OpenIfSplit (new r) y
open_through r x y reach h =
    through_frame r (OpenIfSplit (new r)) (all_each (λ s. (x : Frame) → OpenIfSplit (new r) x → OpenIfSplit (new r) (made_frame r s.kind x)) (λ s x k. open_made r s.kind x k) (stages_of r)) (visits r.log) x y reach h

module _ (estate : Estate) (g : ℕ) (r : Run) (up : is_start_up (op r) ≡ true) where
  -- where the run before is finished, it starts from Live pairs
  ready_live : (q : Run) (rest : List Run) → IsChain estate g (q ∷ rest) → (x : Frame) → After (Opens estate g) LeavesFrame (q ∷ rest) x → is_finished q ≡ true → StartsFrom (op r) r.start.plan (group_state estate g (q ∷ rest)) → x.link ≡ Link.Live
  ready_live q rest chain x before fin from =
      let phase : (group_state estate g (q ∷ rest)).phase ≡ Phase.Ready = ready_from (op r) r.start.plan (group_state estate g (q ∷ rest)) up from in
      let at_rest = (chain_frames estate g (q ∷ rest) chain x before).0 fin in
      let opening : x ≡ opening_frame (group_state estate g (q ∷ rest)).protected = rw phase at at_rest in
      ap (λ f. f.link) opening

  -- and so does one that takes over none
  starts_live : (earlier : List Run) → op r ≢ Op.Failover → IsChain estate g (r ∷ earlier) → (x : Frame) → After (Opens estate g) LeavesFrame earlier x → x.link ≡ Link.Live
  starts_live [] ne chain x opening = ap (λ f. f.link) opening
  starts_live (q ∷ rest) ne chain x before = go chain.2
    where
      go : StartsAt estate g r (q ∷ rest) → x.link ≡ Link.Live
      go (inl (fin, from)) = ready_live q rest chain.3 x before fin from
      go (inr (unfinished, takes)) = absurd (ne (start_up_takes (op r) (op q) takes up).0)

  -- which are Live until its Split
  live_before_split : (earlier : List Run) → op r ≢ Op.Failover → IsChain estate g (r ∷ earlier) → is_finished r ≡ false → Each (NoSplit r) (visits r.log) → (y : Frame) → After (Opens estate g) LeavesFrame (r ∷ earlier) y → y.link ≡ Link.Live
  live_before_split earlier ne chain going none y (x, before, leaves) =
      link_kept r (λ e. let wrong : false ≡ true = rw e at up in absurd cc) (visits r.log) none x y (let reach : ReachFrame r x y = rw going at leaves in reach) ∙ starts_live earlier ne chain x before

-- while a run that starts machines is under way
open_under_way : (estate : Estate) (g : ℕ) (r : Run) (earlier : List Run) → is_start_up (op r) ≡ true → IsChain estate g (r ∷ earlier) → is_finished r ≡ false → (y : Frame) → After (Opens estate g) LeavesFrame (r ∷ earlier) y → OpenIfSplit (new r) y
open_under_way estate g r earlier up chain going y (x, before, leaves) = open_through r x y (rw going at leaves) (start earlier chain before)
  where
    start : (earlier : List Run) → IsChain estate g (r ∷ earlier) → After (Opens estate g) LeavesFrame earlier x → OpenIfSplit (new r) x
    start [] chain opening = open_if_live (new r) x (ap (λ f. f.link) opening)
    start (q ∷ rest) chain before = go chain.2
      where
        go : StartsAt estate g r (q ∷ rest) → OpenIfSplit (new r) x
        go (inl (fin, from)) = open_if_live (new r) x (ready_live estate g r up q rest chain.3 x before fin from)
        go (inr (unfinished, takes)) =
            let (fails, migrates) = start_up_takes (op r) (op q) takes up in
            let (x0, before0, leaves0) = before in
            let reach : ReachFrame q x0 x = rw unfinished at leaves0 in
            let live : x0.link ≡ Link.Live = starts_live estate g q (rw migrates refl) rest (λ e. let wrong : Op.Migrate ≡ Op.Failover = sym migrates ∙ e in absurd cc) chain.3 x0 before0 in
            let same : q.old ≡ r.old = chain.3.1 ∙ ap (λ state. state.protected) (sym (after_unfinished estate g q rest unfinished)) ∙ sym chain.1 in
            subst (λ side. OpenIfSplit (other side) x) same (open_through q x0 x reach (open_if_live (new q) x0 live))

-- When a stage is begun, one of a lower kind is done and not skipped, in a run that is no failover

module _ (r : Run) (sequence : IsInSequence r) (ne : op r ≢ Op.Failover) (v : Visit) (earlier : List Visit) (shape : visits r.log ≡ v ∷ earlier) (real : (stage_of r v).kind ≢ StageKind.Prompt) (kind : StageKind) (lower : rank kind < rank (stage_of r v).kind) (listed : Some_of (λ s. is_of_kind kind s ≡ true) (stages_of r)) where
  from_one : (v.stage < 1) ⊎ (1 ≤ v.stage) → 1 ≤ v.stage
  from_one (inl none) = absurd (real (none_below 1 (stages_of r) v.stage none))
  from_one (inr le) = le

  its_number : (i : ℕ) → 1 ≤ i → (stage_at (stages_of r) i).kind ≡ kind → i < v.stage
  its_number i above its = go (cases_lt i v.stage)
    where
      apart : (v.stage ≡ i) ⊎ (v.stage ≡ i → ⊥) → v.stage ≤ i → i < v.stage
      apart (inl same) le = absurd (omega (arith, lower, ap rank its, ap (λ n. rank (stage_at (stages_of r) n).kind) same))
      apart (inr other) le = absurd (omega (arith, lower, ap rank its, ranked_numbers 1 (stages_of r) (stages_ranked r.plan r.start.op r.start.forced) v.stage i (from_one (cases_lt v.stage 1)) (omega arith)))

      go : (i < v.stage) ⊎ (v.stage ≤ i) → i < v.stage
      go (inl lt) = lt
      go (inr le) = apart (cases_eq v.stage i) le

  visited_before : Some_of (λ u. is_of_kind kind (stage_at (stages_of r) u.stage) ≡ true) earlier
  visited_before =
      let (i, above, passes) = number_with (λ s. is_of_kind kind s ≡ true) 1 (stages_of r) listed in
      let filled : IsFilled (v ∷ earlier) (v ∷ earlier) = subst (λ vs. IsFilled vs vs) shape sequence.filled in
      let lt : i < v.stage = its_number i above (kind-same _ kind passes) in
      go i passes lt (filled.0 i above lt)
    where
      go : (i : ℕ) → is_of_kind kind (stage_at (stages_of r) i) ≡ true → i < v.stage → Visits_at i (v ∷ earlier) → Some_of (λ u. is_of_kind kind (stage_at (stages_of r) u.stage) ≡ true) earlier
      go i passes lt (inl same) = absurd (omega (arith, same, lt))
      go i passes lt (inr later) = some_of-map (λ u. u.stage ≡ i) (λ u. is_of_kind kind (stage_at (stages_of r) u.stage) ≡ true) (λ u e. rw e passes) earlier later

  not_the_last : is_of_kind kind (stage_at (stages_of r) v.stage) ≡ false
  not_the_last = go (is_of_kind kind (stage_at (stages_of r) v.stage)) refl
    where
      go : (b : Bool) → is_of_kind kind (stage_at (stages_of r) v.stage) ≡ b → is_of_kind kind (stage_at (stages_of r) v.stage) ≡ false
      go false e = e
      go true e = absurd (omega (arith, lower, ap rank (kind-same _ kind e)))

  pub done_below : is_done_whole r kind ≡ true
  done_below =
      let (u, found) = find-some_of (λ u. is_of_kind kind (stage_at (stages_of r) u.stage)) earlier visited_before in
      let among : find (λ u. is_of_kind kind (stage_at (stages_of r) u.stage)) (v ∷ earlier) ≡ Some u = rw not_the_last found in
      let in_whole : find (λ u. is_of_kind kind (stage_at (stages_of r) u.stage)) (visits r.log) ≡ Some u = subst (λ vs. find (λ u. is_of_kind kind (stage_at (stages_of r) u.stage)) vs ≡ Some u) (sym shape) among in
      let done : u.done ≡ true = each-find (λ x. x.done ≡ true) (λ u. is_of_kind kind (stage_at (stages_of r) u.stage)) earlier u (subst DoneBefore shape sequence.gone.before) found in
      let none : u.excused ≡ [] = each-find (λ x. x.excused ≡ []) (λ u. is_of_kind kind (stage_at (stages_of r) u.stage)) (visits r.log) u (sequence.gone.none_excused ne) in_whole in
      ap is_visit_whole in_whole ∙ rw (done, none) refl

-- After its Reverse a reprotect has Live pairs

module _ (r : Run) (back : op r ≡ Op.Reprotect) where
  reverses_or_keeps : (kind : StageKind) → Within (op r) kind → (x : Frame) → ((made_frame r kind x).link ≡ x.link) ⊎ ((made_frame r kind x).link ≡ Link.Live)
  reverses_or_keeps StageKind.Reverse within x = inr refl
  reverses_or_keeps StageKind.Split within x = absurd (let wrong : false ≡ true = rw back at within in cc)
  reverses_or_keeps StageKind.TestStart within x = inl refl
  reverses_or_keeps StageKind.TestStop within x = inl refl
  reverses_or_keeps StageKind.Prepare within x = inl refl
  reverses_or_keeps _ within x = inl refl

  reversed_live : is_done_whole r StageKind.Reverse ≡ true → (x y : Frame) → ReachFrame r x y → y.link ≡ Link.Live
  reversed_live done x y reach = go (find (λ v. is_of_kind StageKind.Reverse (stage_at (stages_of r) v.stage)) (visits r.log)) refl done
    where
      each : Each (λ s. (x : Frame) → ((made_frame r s.kind x).link ≡ x.link) ⊎ ((made_frame r s.kind x).link ≡ Link.Live)) (stages_of r)
      each = each-map (IsWithin (op r)) (λ s. (x : Frame) → ((made_frame r s.kind x).link ≡ x.link) ⊎ ((made_frame r s.kind x).link ≡ Link.Live)) (λ s within x. reverses_or_keeps s.kind within x) (stages_of r) (stages_within r.plan (op r) r.start.forced)

      go : (o : Option Visit) → find (λ v. is_of_kind StageKind.Reverse (stage_at (stages_of r) v.stage)) (visits r.log) ≡ o → is_visit_whole o ≡ true → y.link ≡ Link.Live
      go None found whole = absurd cc
      go (Some v) found whole =
          let kind : (stage_of r v).kind ≡ StageKind.Reverse = kind-same _ StageKind.Reverse (find-passes (λ v. is_of_kind StageKind.Reverse (stage_at (stages_of r) v.stage)) (visits r.log) v found) in
          through_from (FrameStep r) (λ z. z.link ≡ Link.Live) (visits r.log)
          (some_of-find (Makes (FrameStep r) (λ z. z.link ≡ Link.Live)) (λ v. is_of_kind StageKind.Reverse (stage_at (stages_of r) v.stage)) (visits r.log) v found
          (complete_makes r (λ z. z.link) Link.Live v whole (rw kind (λ x. refl))))
          (frame_holds r (λ z. z.link) Link.Live each) x y reach

  has_reverse : Some_of (λ s. is_of_kind StageKind.Reverse s ≡ true) (stages_of r)
  has_reverse =
      let list : stages_of r ≡ stages r.plan Op.Reprotect r.start.forced = ap (λ o. stages r.plan o r.start.forced) back in
      rw list (some_of-right (λ s. is_of_kind StageKind.Reverse s ≡ true) (wind_down StageKind.Clear r.plan) _ (inr (inl refl)))

-- What the Dones of a cleanup and a reprotect ask for, but for a reprotect's FinalSync

shows_back : (k : ℕ) (r : Run) (kind : StageKind) (q : Pair) → is_start_up (op r) ≡ false → (op r ≡ Op.Reprotect → kind ≡ StageKind.FinalSync → ⊥) → ShowsDone k q r kind
shows_back k r kind q down none = record {
  tested = λ e is. absurd (let wrong : true ≡ false = rw e at down in cc);
  replicated = λ e is. absurd (starts e);
  kept_all = λ e is. absurd (starts e);
  reversed = λ e is. absurd (none e is);
}
  where
    starts : is_recovery (op r) ≡ true → ⊥
    starts e = let wrong : true ≡ false = sym (starts_recovery (op r) e) ∙ down in cc

other_apart : (side : Side) → other side ≡ side → ⊥
other_apart Side.A e = cc
other_apart Side.B e = cc

replicates : (kind : StageKind) → IsReplication kind ⊎ (IsReplication kind → ⊥)
replicates StageKind.Sync = inl (inl refl)
replicates StageKind.FinalSync = inl (inr refl)
replicates _ = inr (λ is. elim is [ inl e ↦ cc | inr e ↦ cc ])

-- In a lawful journal
module _ (setting : Setting) (runs : List Run) (well : IsWellKept setting runs) (ordered : Each IsInSequence runs) (g : ℕ) (took : TookFor g runs) (r : Run) (last : last_of_group g runs ≡ Some r) (going : is_finished r ≡ false) (v : Visit) (earlier : List Visit) (shape : visits r.log ≡ v ∷ earlier) (k : ℕ) (q : Pair) (fits : FitsPair setting.estate runs g k q) (out : IsLeftOut r (stage_of r v).kind q) where
  sequence : IsInSequence r
  sequence = each-find IsInSequence (holds g) runs r ordered last

  under_way : (rest : List Run) × IsChain setting.estate g (r ∷ rest) × After (Opens setting.estate g) LeavesFrame (r ∷ rest) (frame_of q)
  under_way =
      let (rest, e) = filter-find (holds g) runs r last in
      let chain : IsChain setting.estate g (r ∷ rest) = rw e at (well.groups g).chain in
      let expected : After (Opens setting.estate g) LeavesFrame (r ∷ rest) (frame_of q) = rw e at fits.frame in
      (rest, chain, expected)

  within : (kind : StageKind) → (stage_of r v).kind ≡ kind → Within (op r) kind
  within kind e = subst (Within (op r)) e (stage_from-each (IsWithin (op r)) 1 (stages_of r) v.stage tt (stages_within r.plan (op r) r.start.forced))

  opened : is_recovery (op r) ≡ true → q.link ≡ Link.Split → at (new r) q.writable ≡ true
  opened is = let (rest, chain, expected) = under_way in open_under_way setting.estate g r rest (starts_recovery (op r) is) chain going (frame_of q) expected

  live_at_new : op r ≡ Op.Reprotect → q.source ≡ new r → q.link ≡ Link.Live
  live_at_new back source = go q.link refl
    where
      go : (link : Link) → q.link ≡ link → q.link ≡ Link.Live
      go Link.Live e = e
      go Link.Split e = let (rest, chain, expected) = under_way in absurd (other_apart r.old (sym source ∙ split_at_old setting.estate g r rest back chain going (frame_of q) expected e))

  pub left_out_made : made_frame r (stage_of r v).kind (frame_of q) ≡ frame_of q
  left_out_made = made_already r (stage_of r v).kind q (λ e. opened (within StageKind.Split e)) (λ e. live_at_new (within StageKind.Reverse e)) out

  split : IsReplication (stage_of r v).kind → q.link ≡ Link.Split
  split (inl e) = subst (λ (kind : StageKind). IsLeftOut r kind q) e out
  split (inr e) = subst (λ (kind : StageKind). IsLeftOut r kind q) e out

  low : IsReplication (stage_of r v).kind → rank (stage_of r v).kind < 5
  low (inl e) = omega (arith, ap rank e)
  low (inr e) = omega (arith, ap rank e)

  -- a test or a migration finds no Split pair
  live : is_start_up (op r) ≡ true → op r ≢ Op.Failover → IsReplication (stage_of r v).kind → q.link ≡ Link.Live
  live up ne is =
      let (rest, chain, expected) = under_way in
      live_before_split setting.estate g r up rest ne chain going (no_visit r v earlier shape sequence StageKind.Split (low is) (λ f. cc)) (frame_of q) expected

  -- and a reprotect none at its FinalSync
  live_at_final : op r ≡ Op.Reprotect → (stage_of r v).kind ≡ StageKind.FinalSync → q.link ≡ Link.Live
  live_at_final back final =
      let (rest, chain, expected) = under_way in
      let reach : ReachFrame r expected.0 (frame_of q) = let leaves = expected.2 in rw going at leaves in
      let reversed : is_done_whole r StageKind.Reverse ≡ true =
      done_below r sequence (λ e. let wrong : Op.Reprotect ≡ Op.Failover = sym back ∙ e in absurd cc) v earlier shape (λ e. let wrong : StageKind.FinalSync ≡ StageKind.Prompt = sym final ∙ e in absurd cc) StageKind.Reverse (omega (arith, ap rank final)) (has_reverse r back) in
      reversed_live r back reversed expected.0 (frame_of q) reach

  replicated : IsReplication (stage_of r v).kind → ShowsDone k q r (stage_of r v).kind
  replicated is = by_op (op r) refl
    where
      by_op : (o : Op) → op r ≡ o → ShowsDone k q r (stage_of r v).kind
      by_op Op.Failover o = split_shows setting runs well ordered g took r last going o v earlier shape (low is) k q fits (split is)
      by_op Op.Testing o = absurd (not_both q.link (live (rw o refl) (λ e. let wrong : Op.Testing ≡ Op.Failover = sym o ∙ e in absurd cc) is) (split is))
      by_op Op.Migrate o = absurd (not_both q.link (live (rw o refl) (λ e. let wrong : Op.Migrate ≡ Op.Failover = sym o ∙ e in absurd cc) is) (split is))
      by_op Op.Cleanup o = shows_back k r (stage_of r v).kind q (rw o refl) (λ e final. let wrong : Op.Cleanup ≡ Op.Reprotect = sym o ∙ e in cc)
      by_op Op.Reprotect o = shows_back k r (stage_of r v).kind q (rw o refl) (λ e final. not_both q.link (live_at_final e final) (split is))

  pub left_out_shows : ShowsDone k q r (stage_of r v).kind
  left_out_shows = go (replicates (stage_of r v).kind)
    where
      go : IsReplication (stage_of r v).kind ⊎ (IsReplication (stage_of r v).kind → ⊥) → ShowsDone k q r (stage_of r v).kind
      go (inl is) = replicated is
      go (inr quiet) = other_shows r v earlier shape sequence quiet k q
