-- A call of the array on one pair, as its stage makes it.
use Rattle.std.specs.Prelude.{◌≡◌, ◌≢◌, ◌⊎◌, Bool, true, false, not, ◌&&◌, is_some, Option, Some, None}
use Rattle.std.proofs.Common.{refl, sym, ap, inl, inr}
use Rattle.dr_base.specs.Sides.{other}
use Rattle.dr_outside.specs.BySide.{at}
use Rattle.dr_outside.specs.Pairs.{is_live, is_fit, made, Drift, Made}
use Rattle.dr_meaning.specs.Types.{Link, Snapshot, ArrayCall, Pair}
use Rattle.dr_meaning.specs.declared.stage.StageKind.{StageKind}
use Rattle.dr_meaning.specs.Calls.{call_of, CalledBy, Called}
use Rattle.dr_meaning.specs.Runs.{Run, number, root}

-- what a stage's call asks of a pair
abbrev pub MayWork : StageKind → Pair → Type 0
MayWork StageKind.Sync p = p.link ≡ Link.Live
MayWork StageKind.FinalSync p = p.link ≡ Link.Live
MayWork StageKind.TestStart p = (p.link ≡ Link.Live) × (p.snapshot ≡ None)
MayWork StageKind.TestStop p = p.snapshot ≢ None
MayWork StageKind.Prepare p = at p.source p.writable ≡ true
MayWork StageKind.Split p = (p.link ≡ Link.Live) × (at (other p.source) p.writable ≡ false)
MayWork StageKind.Reverse p = (p.link ≡ Link.Split) × (at p.source p.writable ≡ false) × (at (other p.source) p.writable ≡ true)
MayWork _ p = ⊥

-- what it makes of it
abbrev pub worked : Run → StageKind → Pair → Pair
worked run StageKind.Sync p = made ArrayCall.Sync p
worked run StageKind.FinalSync p = made ArrayCall.Sync p
worked run StageKind.TestStart p = made (ArrayCall.TestStart (number run)) p
worked run StageKind.TestStop p = made ArrayCall.TestStop p
worked run StageKind.Prepare p = made ArrayCall.Prepare p
worked run StageKind.Split p = made (ArrayCall.Failover (root run)) p
worked run StageKind.Reverse p = made ArrayCall.Reverse p
worked run _ p = p

-- a call that had the pair in its list, Ok or Failed: done or as it was, up to drift
pub record AtCall (run : Run) (kind : StageKind) (p q : Pair) : Type 0 where
  pub before : Pair
  pub after : Pair
  pub drifts : Drift p before
  pub may : MayWork kind before
  pub does : (after ≡ worked run kind before) ⊎ (after ≡ before)
  pub drifts_on : Drift after q

pub and_left : (a b : Bool) → a && b ≡ true → a ≡ true
and_left true b e = refl
and_left false b e = absurd cc

pub and_right : (a b : Bool) → a && b ≡ true → b ≡ true
and_right true b e = e
and_right false b e = absurd cc

pub live_is : (l : Link) → is_live l ≡ true → l ≡ Link.Live
live_is Link.Live e = refl
live_is Link.Split e = absurd cc

pub split_is : (l : Link) → not (is_live l) ≡ true → l ≡ Link.Split
split_is Link.Live e = absurd cc
split_is Link.Split e = refl

pub false_is : (b : Bool) → not b ≡ true → b ≡ false
false_is true e = absurd cc
false_is false e = refl

pub none_is : (s : Option Snapshot) → not (is_some s) ≡ true → s ≡ None
none_is None e = refl
none_is (Some s) e = absurd cc

pub some_is : (s : Option Snapshot) → is_some s ≡ true → s ≢ None
some_is None e = absurd cc
some_is (Some s) e = λ f. cc

-- a pair that is fit stays so while it drifts
pub fit_drift : (call : ArrayCall) (p q : Pair) → Drift p q → is_fit call p ≡ true → is_fit call q ≡ true
fit_drift call p q d fit = go call (sym (ap (λ f. f.link) d.frame)) (sym (ap (λ f. f.source) d.frame)) (sym (ap (λ f. f.writable) d.frame)) fit
  where
    go : (call : ArrayCall) → p.link ≡ q.link → p.source ≡ q.source → p.writable ≡ q.writable → is_fit call p ≡ true → is_fit call q ≡ true
    go ArrayCall.Sync l s w e = rw (← l) e
    go (ArrayCall.TestStart run) l s w e = rw (← l, d.snapshot) e
    go ArrayCall.TestStop l s w e = rw d.snapshot e
    go ArrayCall.Prepare l s w e = rw (← s, ← w) e
    go (ArrayCall.Failover run) l s w e = rw (← l, ← s, ← w) e
    go ArrayCall.Reverse l s w e = rw (← l, ← s, ← w) e

-- a pair that a stage's call made
abbrev pub made_step : (run : Run) (kind : StageKind) (call : ArrayCall) (p q : Pair) → call_of run kind ≡ Some call → Made call p q → AtCall run kind p q
made_step run kind call p q e m = record {
  before = m.moment;
  after = worked run kind m.moment;
  drifts = m.before;
  may = may kind e;
  does = inl refl;
  drifts_on = on kind e;
}
  where
    fit : is_fit call m.moment ≡ true
    fit = fit_drift call p m.moment m.before m.fit

    is : (c : ArrayCall) → Some c ≡ Some call → call ≡ c
    is c f = cc

    fit_for : (c : ArrayCall) → Some c ≡ Some call → is_fit c m.moment ≡ true
    fit_for c f = rw (← is c f) fit

    may : (kind : StageKind) → call_of run kind ≡ Some call → MayWork kind m.moment
    may StageKind.Sync f = live_is m.moment.link (fit_for ArrayCall.Sync f)
    may StageKind.FinalSync f = live_is m.moment.link (fit_for ArrayCall.Sync f)
    may StageKind.TestStart f = let b = fit_for (ArrayCall.TestStart (number run)) f in (live_is m.moment.link (and_left _ _ b), none_is m.moment.snapshot (and_right _ _ b))
    may StageKind.TestStop f = some_is m.moment.snapshot (fit_for ArrayCall.TestStop f)
    may StageKind.Prepare f = fit_for ArrayCall.Prepare f
    may StageKind.Split f = let b = fit_for (ArrayCall.Failover (root run)) f in (live_is m.moment.link (and_left _ _ b), false_is _ (and_right _ _ b))
    may StageKind.Reverse f =
        let b = fit_for ArrayCall.Reverse f in
        let c = and_left (not (is_live m.moment.link) && not (at m.moment.source m.moment.writable)) _ b in
        (split_is m.moment.link (and_left _ _ c), false_is _ (and_right _ _ c), and_right (not (is_live m.moment.link) && not (at m.moment.source m.moment.writable)) _ b)
    may StageKind.Start f = absurd cc
    may StageKind.Stop f = absurd cc
    may StageKind.Clear f = absurd cc
    may StageKind.Command f = absurd cc
    may StageKind.Prompt f = absurd cc

    after_for : (c : ArrayCall) → Some c ≡ Some call → Drift (made c m.moment) q
    after_for c f = rw (← is c f) m.after

    on : (kind : StageKind) → call_of run kind ≡ Some call → Drift (worked run kind m.moment) q
    on StageKind.Sync f = after_for ArrayCall.Sync f
    on StageKind.FinalSync f = after_for ArrayCall.Sync f
    on StageKind.TestStart f = after_for (ArrayCall.TestStart (number run)) f
    on StageKind.TestStop f = after_for ArrayCall.TestStop f
    on StageKind.Prepare f = after_for ArrayCall.Prepare f
    on StageKind.Split f = after_for (ArrayCall.Failover (root run)) f
    on StageKind.Reverse f = after_for ArrayCall.Reverse f
    on StageKind.Start f = absurd cc
    on StageKind.Stop f = absurd cc
    on StageKind.Clear f = absurd cc
    on StageKind.Command f = absurd cc
    on StageKind.Prompt f = absurd cc

-- a pair that a stage's call may have had in its list was at the call, or drifted
pub called_step : (run : Run) (kind : StageKind) (p q : Pair) → Called run kind p q → AtCall run kind p q ⊎ Drift p q
called_step run kind p q called = go (call_of run kind) refl called
  where
    go : (o : Option ArrayCall) → call_of run kind ≡ o → CalledBy o p q → AtCall run kind p q ⊎ Drift p q
    go None e d = inr d
    go (Some call) e (inl m) = inl (made_step run kind call p q e m)
    go (Some call) e (inr d) = inr d
