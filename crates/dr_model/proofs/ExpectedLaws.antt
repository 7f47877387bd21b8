-- How one record changes what the runs allow of one object.
use Rattle.std.specs.Prelude.{◌≡◌, ℕ, ◌<◌, ◌==◌, ◌⊎◌, Bool, true, false, List, [], ◌∷◌, Some, cond, map, filter, find}
use Rattle.std.proofs.Common.{refl, sym, ap, ◌∙◌, arith}
use Rattle.std.proofs.lemmas.Bool.{eq-eqb, ne_eqb}
use Rattle.dr_meaning.specs.Types.{Op, Estate, Record}
use Rattle.dr_outside.specs.Pairs.{Frame}
use Rattle.dr_meaning.specs.Runs.{Run, number, op, holds, is_finished, last_of_group, run_named, take_in}
use Rattle.dr_meaning.specs.Expected.{After, LeavesFrame, ExpectedFrame}
use Rattle.dr_base.specs.Lists.{has}
use Rattle.dr_meaning.specs.Visits.{Visit, visits, all}
use Rattle.dr_meaning.specs.Outcomes.{made_frame, FrameOutcome}
use Rattle.dr_meaning.specs.Reach.{ReachFrame}
use Rattle.dr_meaning.specs.Meaning.{FrameMeaning}
use Rattle.dr_model.proofs.ReachLaws.{begun_visit, kind_at, frame_call, reach_frame-begin, reach_frame-done}
use Rattle.dr_model.proofs.WalkedLaws.{IsWalked}
use Rattle.dr_model.proofs.WholeTest.{test_frame}
use Rattle.dr_meaning.proofs.Lists.{Each, each-map, each-cond}

-- a change that keeps what a run holds keeps which runs hold a group
pub filter-map : (p : Run → Bool) (change : Run → Run) → ((r : Run) → p (change r) ≡ p r) → (runs : List Run) → filter p (map change runs) ≡ map change (filter p runs)
filter-map p change same [] = refl
filter-map p change same (r ∷ runs) = rw (same r) (go (p r) (filter-map p change same runs))
  where
    go : (b : Bool) → filter p (map change runs) ≡ map change (filter p runs) → cond b (change r ∷ filter p (map change runs)) (filter p (map change runs)) ≡ map change (cond b (r ∷ filter p runs) (filter p runs))
    go true e = ap (λ rs. change r ∷ rs) e
    go false e = e

-- numbers fall from run to run
abbrev pub Falls : List Run → Type 0
Falls [] = Unit {0}
Falls (r ∷ earlier) = Each (λ q. number q < number r) earlier × Falls earlier

pub each-filter : (P : Run → Type 0) (p : Run → Bool) (rs : List Run) → Each P rs → Each P (filter p rs)
each-filter P p [] h = tt
each-filter P p (r ∷ rs) h = each-cond P (p r) _ _ (h.0, each-filter P p rs h.1) (each-filter P p rs h.1)

pub falls-filter : (p : Run → Bool) (rs : List Run) → Falls rs → Falls (filter p rs)
falls-filter p [] h = tt
falls-filter p (r ∷ rs) h = go (p r) (falls-filter p rs h.1)
  where
    go : (b : Bool) → Falls (filter p rs) → Falls (cond b (r ∷ filter p rs) (filter p rs))
    go true f = (each-filter (λ q. number q < number r) p rs h.0, f)
    go false f = f

-- the last run that holds a group is the first of those that hold it
pub filter-find : (p : Run → Bool) (rs : List Run) (r : Run) → find p rs ≡ Some r → (earlier : List Run) × (filter p rs ≡ r ∷ earlier)
filter-find p [] r e = absurd cc
filter-find p (q ∷ rs) r e = go (p q) refl (filter-find p rs r)
  where
    go : (b : Bool) → p q ≡ b → (find p rs ≡ Some r → (earlier : List Run) × (filter p rs ≡ r ∷ earlier)) → (earlier : List Run) × (cond (p q) (q ∷ filter p rs) (filter p rs) ≡ r ∷ earlier)
    go true f rest = let same : Some q ≡ Some r = rw f at e in let is : q ≡ r = cc in (filter p rs, rw (f, is) refl)
    go false f rest = rw f (rest (rw f at e))

module _ {X : Type 0} (Opens : X → Type 0) (Leaves : Run → X → X → Type 0) where
  -- a change of runs that keeps what they leave
  pub after-change : (change : Run → Run) (rs : List Run) → Each (λ r. (x y : X) → Leaves r x y → Leaves (change r) x y) rs → (y : X) → After Opens Leaves rs y → After Opens Leaves (map change rs) y
  after-change change [] h y a = a
  after-change change (r ∷ rs) h y (x, before, leaves) = (x, after-change change rs h.1 x before, h.0 x y leaves)

-- a record of another run leaves a run as it is
pub take_in_other : (item : Record) (q : Run) → (number q ≡ run_named item → ⊥) → take_in item q ≡ q
take_in_other item q ne = rw (ne_eqb (number q) (run_named item) ne) refl

pub take_in_own : (item : Record) (r : Run) → number r ≡ run_named item → take_in item r ≡ record r { log = item ∷ r.log }
take_in_own item r e = rw (eq-eqb (number r) (run_named item) e) refl

pub holds-take_in : (g : ℕ) (item : Record) (r : Run) → holds g (take_in item r) ≡ holds g r
holds-take_in g item r = go (number r == run_named item)
  where
    go : (b : Bool) → holds g (cond b (record r { log = item ∷ r.log }) r) ≡ holds g r
    go true = refl
    go false = refl

pub filter-take_in : (g : ℕ) (item : Record) (runs : List Run) → Each (λ r. number r ≡ run_named item → holds g r ≡ false) runs → filter (holds g) (map (take_in item) runs) ≡ filter (holds g) runs
filter-take_in g item [] h = refl
filter-take_in g item (r ∷ runs) h = rw (holds-take_in g item r) (go (holds g r) refl (filter-take_in g item runs h.1))
  where
    go : (b : Bool) → holds g r ≡ b → filter (holds g) (map (take_in item) runs) ≡ filter (holds g) runs → cond b (take_in item r ∷ filter (holds g) (map (take_in item) runs)) (filter (holds g) (map (take_in item) runs)) ≡ cond b (r ∷ filter (holds g) runs) (filter (holds g) runs)
    go true e same = rw (take_in_other item r (λ own. let no : holds g r ≡ false = h.0 own in absurd (let bad : true ≡ false = sym e ∙ no in cc)), same) refl
    go false e same = same

module _ {X : Type 0} (Opens : X → Type 0) (Leaves : Run → X → X → Type 0) where
  -- A record of the last run that holds a group: only what this run leaves changes.
  pub after-take_in : (g : ℕ) (runs : List Run) (r : Run) (item : Record) (y z : X) → Falls runs → last_of_group g runs ≡ Some r → number r ≡ run_named item → ((x : X) → Leaves r x y → Leaves (record r { log = item ∷ r.log }) x z) → After Opens Leaves (filter (holds g) runs) y → After Opens Leaves (filter (holds g) (map (take_in item) runs)) z
  after-take_in g runs r item y z falls last own step after =
      let (earlier, e) = filter-find (holds g) runs r last in
      let down : Falls (r ∷ earlier) = rw e at (falls-filter (holds g) runs falls) in
      let (x, before, leaves) = rw e at after in
      rw (filter-map (holds g) (take_in item) (holds-take_in g item) runs, e, take_in_own item r own) (
        x,
        after-change Opens Leaves (take_in item) earlier
            (each-map (λ q. number q < number r) (λ q. (x y : X) → Leaves q x y → Leaves (take_in item q) x y)
            (λ q lt x y h. rw (take_in_other item q (λ same. omega arith)) h) earlier down.0)
            x before,
        step x leaves,
      )

  -- A record of a run that doesn't hold the group changes nothing.
  pub after-take_in_elsewhere : (g : ℕ) (runs : List Run) (item : Record) (y : X) → Each (λ r. number r ≡ run_named item → holds g r ≡ false) runs → After Opens Leaves (filter (holds g) runs) y → After Opens Leaves (filter (holds g) (map (take_in item) runs)) y
  after-take_in_elsewhere g runs item y h after = rw (filter-take_in g item runs h) after

  -- A call in the last run that holds a group.
  pub after-call : (g : ℕ) (runs : List Run) (r : Run) (y z : X) → last_of_group g runs ≡ Some r → ((x : X) → Leaves r x y → Leaves r x z) → After Opens Leaves (filter (holds g) runs) y → After Opens Leaves (filter (holds g) runs) z
  after-call g runs r y z last step after =
      let (earlier, e) = filter-find (holds g) runs r last in
      let (x, before, leaves) = rw e at after in
      rw e (x, before, step x leaves)

-- a Finish changes no meaning
pub frame_meaning-finish : (o : Op) (forced : Bool) (r : Run) (moment : ℕ) (machines : List ℕ) (x y : Frame) → FrameMeaning o forced r x y → FrameMeaning o forced (record r { log = Record.Finish (number r) moment machines ∷ r.log }) x y
frame_meaning-finish Op.Testing forced r moment machines x y h = h
frame_meaning-finish Op.Cleanup forced r moment machines x y h = h
frame_meaning-finish Op.Migrate forced r moment machines x y h = h
frame_meaning-finish Op.Failover true r moment machines x y h = h
frame_meaning-finish Op.Failover false r moment machines x y h = h
frame_meaning-finish Op.Reprotect forced r moment machines x y h = h

-- The laws of the walk, for the frame of a pair of a group whose last run is r.

module _ (estate : Estate) (g : ℕ) (runs : List Run) (r : Run) (falls : Falls runs) (last : last_of_group g runs ≡ Some r) (going : is_finished r ≡ false) where
  -- a Begin leaves each expected frame expected
  pub frame-begin : (stage : ℕ) (y : Frame) → ExpectedFrame estate g runs y → ExpectedFrame estate g (map (take_in (Record.Begin (number r) stage)) runs) y
  frame-begin stage y h =
      after-take_in _ LeavesFrame g runs r (Record.Begin (number r) stage) y y falls last refl
      (λ x l. rw going (reach_frame-begin r (number r) stage x y (rw going at l))) h

  -- in a begun stage a call, Ok or Failed, leads to an expected frame
  pub frame-call : (stage : ℕ) (excused : List ℕ) (vs : List Visit) (y z : Frame) → visits r.log ≡ begun_visit stage excused ∷ vs → FrameOutcome r (kind_at r stage) y z → ExpectedFrame estate g runs y → ExpectedFrame estate g runs z
  frame-call stage excused vs y z begun out h =
      after-call _ LeavesFrame g runs r y z last
      (λ x l. rw going (rw begun (frame_call r stage excused vs x y z (rw begun at (let reach : ReachFrame r x y = rw going at l in reach)) out))) h

  -- a Done, once the frame is made or all pairs are skipped
  pub frame-done : (stage : ℕ) (excused : List ℕ) (vs : List Visit) (y : Frame) → visits r.log ≡ begun_visit stage excused ∷ vs → (has excused all ≡ true) ⊎ (made_frame r (kind_at r stage) y ≡ y) → ExpectedFrame estate g runs y → ExpectedFrame estate g (map (take_in (Record.Done (number r) stage)) runs) y
  frame-done stage excused vs y begun made h =
      after-take_in _ LeavesFrame g runs r (Record.Done (number r) stage) y y falls last refl
      (λ x l. rw going (reach_frame-done r (number r) stage excused vs x y begun (rw going at l) made)) h

  -- a Finish, where the run is walked: shown for a test
  pub frame-finish_test : (moment : ℕ) (machines : List ℕ) (y : Frame) → op r ≡ Op.Testing → IsWalked r → ExpectedFrame estate g runs y → ExpectedFrame estate g (map (take_in (Record.Finish (number r) moment machines)) runs) y
  frame-finish_test moment machines y e w h =
      after-take_in _ LeavesFrame g runs r (Record.Finish (number r) moment machines) y y falls last refl
      (λ x l. frame_meaning-finish (op r) r.start.forced r moment machines x y (test_frame r e w x y (rw going at l))) h
