-- Pair by pair: what replication and a snapshot make of a pair in the opening state that protects A.
use Rattle.std.proofs.Common.{◌≡◌, ℕ, ◌≤◌, ◌<◌, ◌⊎◌, inl, inr, Bool, true, false, not, ◌&&◌, List, refl, sym, ◌∙◌, ap, subst, arith}
use Rattle.std.specs.Prelude.{Result, Ok, Err, Option, Some, None, option_map, is_some}
use Rattle.dr_base.specs.declared.side.Side.{Side}
use Rattle.dr_base.specs.declared.side.Side.TheVariants.{A, B}
use Rattle.dr_base.specs.Sides.{other}
use Rattle.dr_outside.specs.declared.pair.Content.{Content}
use Rattle.dr_outside.specs.declared.pair.Pair.{Pair}
use Rattle.dr_outside.specs.declared.pair.Half.{Half}
use Rattle.dr_outside.specs.declared.pair.Snapshot.{Snapshot}
use Rattle.dr_outside.specs.declared.pair.Link.{Link}
use Rattle.dr_outside.specs.declared.pair.Link.TheVariants.{Live}
use Rattle.dr_outside.specs.declared.array.ArrayFail.{ArrayFail}
use Rattle.dr_outside.specs.declared.array.ArrayFail.TheVariants.{Failed, Wrong}
use Rattle.dr_outside.specs.declared.array.ArrayCall.TheVariants.{Sync, TestStart}
use Rattle.dr_outside.specs.BySide.{at, put}
use Rattle.dr_outside.specs.Pairs.{Frame, frame_of, is_live, is_target, target, half, Drift, Grows, FollowsSource, Made, PairStep, Read, made, is_fit}
use Rattle.dr_base.specs.Lists.{has}
use Rattle.dr_outside.specs.Arrays.{ArrayState, ArrayStep, EachStep}
use Rattle.dr_outside.proofs.Drifts.{Drift-trans}
use Rattle.dr_meaning.specs.Opening.{IsOpeningPair, AreOpeningPairs}
use Rattle.dr_meaning.specs.Testing.{DriftsButSnapshot, HasTestSnapshot}
use Rattle.dr_testing.specs.Storage.{StorageStep, StorageTold, PairDone}

is_from_a : (p : Pair) → IsOpeningPair A p → p.source ≡ A
is_from_a p o = ap (λ (f : Frame). f.source) o.frame

-- what drift does to such a pair: it stays in the opening state, and its contents have no fewer writes
record Moves (p q : Pair) : Type 0 where
  opening : IsOpeningPair A q
  line : q.content.a.line ≡ p.content.a.line
  source : p.content.a.writes ≤ q.content.a.writes
  target : p.content.b.writes ≤ q.content.b.writes

moves : (p q : Pair) → IsOpeningPair A p → Drift p q → Moves p q
moves p q o d =
    let source : Grows p.content.a q.content.a = d.written A (ap (λ (f : Frame). f.writable.a) o.frame) in
    let went : (q.content.b ≡ p.content.b) ⊎ FollowsSource p.content.b (at p.source q.content) q.content.b = d.replicated B (ap (is_target B) o.frame) in
    let end : (q.content.b.line ≡ q.content.a.line) × (p.content.b.writes ≤ q.content.b.writes) × (q.content.b.writes ≤ q.content.a.writes) =
    elim went [
      | inl same ↦
          let writes : q.content.b.writes ≡ p.content.b.writes = ap (λ (c : Content). c.writes) same in
          (ap (λ (c : Content). c.line) same ∙ o.line ∙ sym source.line, omega (arith, o.behind, source.writes), omega (arith, o.behind, source.writes))
      | inr up ↦
          let up' : FollowsSource p.content.b q.content.a q.content.b = subst (λ (s : Side). FollowsSource p.content.b (at s q.content) q.content.b) (is_from_a p o) up in
          (up'.line, up'.at_least, up'.at_most)
    ] in
    record {
      opening = record { frame = d.frame ∙ o.frame; line = end.0; behind = end.2 };
      line = source.line;
      source = source.writes;
      target = end.1;
    }

-- replication puts the source's content at B
synced_content : (p : Pair) → IsOpeningPair A p → (made Sync p).content ≡ record { a = p.content.a; b = p.content.a }
synced_content p o = ap (λ (s : Side). put (other s) (at s p.content) p.content) (is_from_a p o)

-- replication is a drift of a pair in the opening state
sync_drifts : (p : Pair) → IsOpeningPair A p → Drift p (made Sync p)
sync_drifts p o = record {
  frame = refl;
  snapshot = refl;
  written = written;
  replicated = replicated;
  read_only = read_only;
}
  where
    written : (side : Side) → at side p.writable ≡ true → Grows (at side p.content) (at side (made Sync p).content)
    written A w = rw (synced_content p o) (record { line = refl; base = refl; writes = omega arith })
    written B w = let no : p.writable.b ≡ false = ap (λ (f : Frame). f.writable.b) o.frame in cc (w, no)

    replicated : (side : Side) → is_target side (frame_of p) ≡ true → (at side (made Sync p).content ≡ at side p.content) ⊎ FollowsSource (at side p.content) (at p.source (made Sync p).content) (at side (made Sync p).content)
    replicated A t = let no : is_target A (frame_of p) ≡ false = ap (is_target A) o.frame in cc (t, no)
    replicated B t = rw (synced_content p o, is_from_a p o) (inr (record { line = refl; at_least = o.behind; at_most = omega arith }))

    read_only : (side : Side) → at side p.writable ≡ false → is_target side (frame_of p) ≡ false → at side (made Sync p).content ≡ at side p.content
    read_only A w t = let yes : p.writable.a ≡ true = ap (λ (f : Frame). f.writable.a) o.frame in cc (w, yes)
    read_only B w t = let yes : is_target B (frame_of p) ≡ true = ap (is_target B) o.frame in cc (t, yes)

-- a pair after replication: it drifted, and its target has at least the writes that its source had
record Synced (p q : Pair) : Type 0 where
  drift : Drift p q
  opening : IsOpeningPair A q
  line : q.content.b.line ≡ p.content.a.line
  writes : p.content.a.writes ≤ q.content.b.writes

synced : (p q : Pair) → IsOpeningPair A p → Made Sync p q → Synced p q
synced p q o s =
    let before : Moves p s.moment = moves p s.moment o s.before in
    let there : Drift s.moment (made Sync s.moment) = sync_drifts s.moment before.opening in
    let copied : (made Sync s.moment).content ≡ record { a = s.moment.content.a; b = s.moment.content.a } = synced_content s.moment before.opening in
    let made_opening : Moves s.moment (made Sync s.moment) = moves s.moment (made Sync s.moment) before.opening there in
    let after : Moves (made Sync s.moment) q = moves (made Sync s.moment) q made_opening.opening s.after in
    let b_writes : (made Sync s.moment).content.b.writes ≡ s.moment.content.a.writes = ap (λ c. c.b.writes) copied in
    record {
      drift = Drift-trans p (made Sync s.moment) q (Drift-trans p s.moment (made Sync s.moment) s.before there) s.after;
      opening = after.opening;
      line = after.opening.line ∙ after.line ∙ made_opening.line ∙ before.line;
      writes = omega (arith, before.source, after.target, b_writes);
    }

-- a drift changes no snapshot, so it is one beside the snapshot
pub beside : (p q : Pair) → Drift p q → DriftsButSnapshot p q
beside p q d = record {
  frame = ap (λ (f : Frame). record f { snapshot = option_map (λ s. s.run) p.snapshot }) d.frame;
  snapshot = refl;
  written = d.written;
  replicated = d.replicated;
  read_only = d.read_only;
}

tested : (run : ℕ) (p q r : Pair) → IsOpeningPair A p → Synced p q → Made (TestStart run) q r → HasTestSnapshot run p r
tested run p q r o s t =
    let before : Moves q t.moment = moves q t.moment s.opening t.before in
    let plain : Pair = record r { snapshot = t.moment.snapshot } in
    let after : Drift t.moment plain = record {
      frame = ap (λ (f : Frame). record f { snapshot = option_map (λ x. x.run) t.moment.snapshot }) t.after.frame;
      snapshot = refl;
      written = t.after.written;
      replicated = t.after.replicated;
      read_only = t.after.read_only;
    } in
    let went : Moves t.moment plain = moves t.moment plain before.opening after in
    let content : Content = at (other t.moment.source) t.moment.content in
    let copied : content ≡ t.moment.content.b = ap (λ (x : Side). at (other x) t.moment.content) (is_from_a t.moment before.opening) in
    let content_line : content.line ≡ t.moment.content.b.line = ap (λ (c : Content). c.line) copied in
    let content_writes : content.writes ≡ t.moment.content.b.writes = ap (λ (c : Content). c.writes) copied in
    record {
      rest = beside p plain (Drift-trans p q plain s.drift (Drift-trans q t.moment plain t.before after));
      content = content;
      snapshot = t.after.snapshot;
      line = rw (is_from_a p o) (content_line ∙ before.opening.line ∙ before.line ∙ sym s.opening.line ∙ s.line);
      at_least = rw (is_from_a p o) (omega (arith, before.target, s.writes, content_writes));
      at_most = rw (is_from_a p o) (omega (arith, before.opening.behind, went.source, content_writes));
    }

fit_to_start : (run : ℕ) (q : Pair) → IsOpeningPair A q → is_fit (TestStart run) q ≡ true
fit_to_start run q o = go q.snapshot q.link (ap (λ (f : Frame). f.snapshot) o.frame) (ap (λ (f : Frame). f.link) o.frame)
  where
    go : (snapshot : Option Snapshot) (link : Link) → option_map (λ s. s.run) snapshot ≡ None → link ≡ Live → (is_live link && not (is_some snapshot)) ≡ true
    go None link e l = rw l refl
    go (Some s) link e l = cc e

module _ (run : ℕ) (list : List ℕ) (old : ArrayState) (opening : AreOpeningPairs A old) (below : (i : ℕ) → has list i ≡ true → i < old.count) where
  -- one pair after a failed replication: it drifted alone
  pair_after_sync : (i : ℕ) (listed done : Bool) → has list i ≡ listed → (new : Pair) → PairStep Sync (listed && done) (old.pair i) new → PairDone run (listed && false) (old.pair i) new
  pair_after_sync i true true l new s = (synced (old.pair i) new (opening i (below i l)) s).drift
  pair_after_sync i true false l new s = s
  pair_after_sync i false done l new s = s

  -- replication failed
  pub after_sync : (new : ArrayState) (fail : ArrayFail) → ArrayStep Sync list old new (Err fail) → StorageStep run list old new (Err fail)
  after_sync new (Failed side) s = record { done = λ group. false; each = λ i. pair_after_sync i (has list i) (s.done (old.group i)) refl (new.pair i) (s.each i) }
  after_sync new (Wrong k half) s =
      let o : IsOpeningPair A (old.pair k) = opening k (below k s.first.listed) in
      let live : is_fit Sync (old.pair k) ≡ true = ap (λ (f : Frame). is_live f.link) o.frame in
      cc (live, s.first.unfit)

  module _ (mid : ArrayState) (same : mid.group ≡ old.group) (sync : EachStep Sync (has list) old.pair mid.pair) where
    each_synced : (i : ℕ) → has list i ≡ true → Synced (old.pair i) (mid.pair i)
    each_synced i l =
        let step : Made Sync (old.pair i) (mid.pair i) = rw l at (sync i) in
        synced (old.pair i) (mid.pair i) (opening i (below i l)) step

    -- one pair after the snapshots were taken
    pair_done : (i : ℕ) (listed : Bool) → has list i ≡ listed → (new : Pair) → PairStep (TestStart run) listed (mid.pair i) new → PairDone run listed (old.pair i) new
    pair_done i true l new s = tested run (old.pair i) (mid.pair i) new (opening i (below i l)) (each_synced i l) s
    pair_done i false l new s =
        let drift : Drift (old.pair i) (mid.pair i) = rw l at (sync i) in
        Drift-trans (old.pair i) (mid.pair i) new drift s

    -- one pair after a failed call for the snapshots
    pair_left : (i : ℕ) (listed done : Bool) → has list i ≡ listed → (new : Pair) → PairStep (TestStart run) (listed && done) (mid.pair i) new → PairDone run (listed && done) (old.pair i) new
    pair_left i true true l new s = tested run (old.pair i) (mid.pair i) new (opening i (below i l)) (each_synced i l) s
    pair_left i true false l new s = Drift-trans (old.pair i) (mid.pair i) new (each_synced i l).drift s
    pair_left i false done l new s =
        let drift : Drift (old.pair i) (mid.pair i) = rw l at (sync i) in
        Drift-trans (old.pair i) (mid.pair i) new drift s

    -- replication was done, and snapshots were taken or not
    pub after_start : (new : ArrayState) (result : Result (Unit {0}) ArrayFail) → ArrayStep (TestStart run) list mid new result → StorageStep run list old new result
    after_start new (Ok done) s = λ i. pair_done i (has list i) refl (new.pair i) (s i)
    after_start new (Err (Failed side)) s = record {
      done = s.done;
      each = λ i. subst (λ (group : ℕ → ℕ). PairDone run (has list i && s.done (group i)) (old.pair i) (new.pair i)) same (pair_left i (has list i) (s.done (mid.group i)) refl (new.pair i) (s.each i));
    }
    after_start new (Err (Wrong k half)) s =
        let fit : is_fit (TestStart run) (mid.pair k) ≡ true = fit_to_start run (mid.pair k) (each_synced k s.first.listed).opening in
        cc (fit, s.first.unfit)

-- a pair that shows what it showed before
record Alike (p q : Pair) : Type 0 where
  frame : frame_of q ≡ frame_of p
  snapshot : q.snapshot ≡ p.snapshot

-- replication and drift keep what a pair shows
alike_after_sync : (done : Bool) (p q : Pair) → PairStep Sync done p q → Alike p q
alike_after_sync true p q s = record { frame = s.after.frame ∙ s.before.frame; snapshot = s.after.snapshot ∙ s.before.snapshot }
alike_after_sync false p q d = record { frame = d.frame; snapshot = d.snapshot }

-- the half of this frame and snapshot
abbrev showing : Side → Content → Frame → Option Snapshot → Half
showing side content frame snapshot = record { source = frame.source; link = frame.link; writable = at side frame.writable; content = content; snapshot = snapshot }

half_alike : (side : Side) (p q : Pair) → Alike p q → half side q ≡ record (half side p) { content = at side q.content }
half_alike side p q a =
    ap (λ (f : Frame). showing side (at side q.content) f q.snapshot) a.frame ∙ ap (λ (s : Option Snapshot). showing side (at side q.content) (frame_of p) s) a.snapshot

-- a half that was read later at the target shows what the pair showed before
shown_before : (p q r : Pair) → Alike p q → (found : Half) → Read (target q) q r found → found ≡ record (half (target p) p) { content = found.content }
shown_before p q r a found read =
    let side_is : target q ≡ target p = ap (λ (f : Frame). other f.source) a.frame in
    let seen : found ≡ half (target p) read.moment = subst (λ (side : Side). found ≡ half side read.moment) side_is read.seen in
    let both : Alike p read.moment = record { frame = read.before.frame ∙ a.frame; snapshot = read.before.snapshot ∙ a.snapshot } in
    subst (λ (h : Half). h ≡ record (half (target p) p) { content = h.content }) (sym seen) (half_alike (target p) p read.moment both)

fits_alike : (run : ℕ) (p q : Pair) → Alike p q → is_fit (TestStart run) q ≡ is_fit (TestStart run) p
fits_alike run p q a =
    ap (λ (f : Frame). is_live f.link && not (is_some q.snapshot)) a.frame ∙ ap (λ (s : Option Snapshot). is_live p.link && not (is_some s)) a.snapshot

-- replication failed or was refused
pub told_by_sync : (run : ℕ) (list : List ℕ) (old new : ArrayState) (fail : ArrayFail) → ArrayStep Sync list old new (Err fail) → StorageTold run list old.pair (Err fail)
told_by_sync run list old new (Failed side) s = tt
told_by_sync run list old new (Wrong k found) s = record {
  unfit = ap (λ (b : Bool). b && not (is_some (old.pair k).snapshot)) s.first.unfit;
  shown = shown_before (old.pair k) (old.pair k) (new.pair k) (record { frame = refl; snapshot = refl }) found s.read;
}

-- replication was done, and the snapshots were taken, or failed, or were refused
pub told_by_start : (run : ℕ) (list : List ℕ) (old mid new : ArrayState) → EachStep Sync (has list) old.pair mid.pair → (result : Result (Unit {0}) ArrayFail) → ArrayStep (TestStart run) list mid new result → StorageTold run list old.pair result
told_by_start run list old mid new sync (Ok done) s = λ i listed.
    let alike : Alike (old.pair i) (mid.pair i) = alike_after_sync (has list i) (old.pair i) (mid.pair i) (sync i) in
    let made : Made (TestStart run) (mid.pair i) (new.pair i) = rw listed at (s i) in
    sym (fits_alike run (old.pair i) (mid.pair i) alike) ∙ made.fit
told_by_start run list old mid new sync (Err (Failed side)) s = tt
told_by_start run list old mid new sync (Err (Wrong k found)) s =
    let alike : Alike (old.pair k) (mid.pair k) = alike_after_sync (has list k) (old.pair k) (mid.pair k) (sync k) in
    record {
      unfit = sym (fits_alike run (old.pair k) (mid.pair k) alike) ∙ s.first.unfit;
      shown = shown_before (old.pair k) (mid.pair k) (new.pair k) alike found s.read;
    }
