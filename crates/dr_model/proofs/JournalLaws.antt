-- How each record of a lawful journal changes what is expected of objects, and whether journal and outside are sound.
use Rattle.std.specs.Prelude.{◌≡◌, ℕ, ◌==◌, Bool, true, false, not, ◌&&◌, List, [], ◌∷◌, Some, map}
use Rattle.std.proofs.Common.{refl, ap, ◌∙◌}
use Rattle.std.proofs.lemmas.Bool.{eqb-true}
use Rattle.dr_meaning.specs.Types.{Side, Placed, Post, Record}
use Rattle.dr_meaning.specs.declared.stage.StageKind.{StageKind}
use Rattle.dr_outside.specs.Pairs.{Frame}
use Rattle.dr_base.specs.Lists.{has}
use Rattle.dr_meaning.specs.Stages.{stage_at}
use Rattle.dr_meaning.specs.Visits.{Visit, visits, excuse, open_stage, all}
use Rattle.dr_meaning.specs.Runs.{Setting, Run, number, stages_of, holds, is_finish, is_finished, is_open, last_of_group, run_at, run_named, with_record, take_in}
use Rattle.dr_meaning.specs.Outcomes.{IsAsWanted}
use Rattle.dr_meaning.specs.Reach.{Through, FrameStep, ReachFrame, works, PostStep, ReachPost}
use Rattle.dr_meaning.specs.Expected.{LeavesFrame, LeavesPost, wanted, ExpectedFrame, ExpectedPost}
use Rattle.dr_meaning.specs.Lawful.{MayCome}
pub use Rattle.dr_meaning.specs.Backing.{IsPlain}
use Rattle.dr_meaning.proofs.Lists.{Each, each-map, find-passes}
use Rattle.dr_model.proofs.ReachLaws.{frame_begin, post_begin, kind_at}
use Rattle.dr_model.proofs.ExpectedLaws.{after-take_in, after-take_in_elsewhere}
use Rattle.dr_model.proofs.TableLaws.{table_falls, open_is_last_of}
use Rattle.dr_model.proofs.LogLaws.{only_run, unfinished}
use Rattle.dr_model.proofs.ExcuseLaws.{begun_head}
use Rattle.dr_model.proofs.PhaseLaws.{Opens}
use Rattle.dr_model.proofs.PostPhase.{OpensPost, LeavesIts}
use Rattle.dr_model.proofs.PostLaws.{start_finds}
use Rattle.dr_model.proofs.ChainLaws.{IsWellKept, open_run}

-- A record of an open run, other than its Finish

abbrev pub GoesOn : Record → Type 0
GoesOn item = is_finish item ≡ false

pub still_going : (r : Run) (item : Record) → GoesOn item → is_finished r ≡ false → is_finished (with_record r item) ≡ false
still_going r item goes going = rw goes going

module _ (setting : Setting) (runs : List Run) (well : IsWellKept setting runs) (item : Record) (goes : GoesOn item) (r : Run) (at_n : run_at (run_named item) runs ≡ Some r) (going : is_open r ≡ true) (g : ℕ) where
  its_last : holds g r ≡ true → last_of_group g runs ≡ Some r
  its_last held = open_is_last_of (λ run. number run == run_named item) g r runs well.table at_n going held

  its_number : number r ≡ run_named item
  its_number = eqb-true (number r) (run_named item) (find-passes (λ run. number run == run_named item) runs r at_n)

  unfin : is_finished r ≡ false
  unfin = unfinished (is_finished r) (r.by == 0) going

  elsewhere : holds g r ≡ false → Each (λ q. number q ≡ run_named item → holds g q ≡ false) runs
  elsewhere held = each-map (λ q. number q ≡ run_named item → q ≡ r) (λ q. number q ≡ run_named item → holds g q ≡ false) (λ q same at_q. rw (same at_q) held) runs (only_run (run_named item) runs r (table_falls runs well.table) at_n)

  -- a frame stays expected, where the run may still have made it
  pub frame-record : (y : Frame) → (last_of_group g runs ≡ Some r → (x : Frame) → ReachFrame r x y → ReachFrame (with_record r item) x y) → ExpectedFrame setting.estate g runs y → ExpectedFrame setting.estate g (map (take_in item) runs) y
  frame-record y step expected = go (holds g r) refl
    where
      leaves : last_of_group g runs ≡ Some r → (x : Frame) → LeavesFrame r x y → LeavesFrame (with_record r item) x y
      leaves last x l = rw (still_going r item goes unfin) (step last x (rw unfin at l))

      go : (b : Bool) → holds g r ≡ b → ExpectedFrame setting.estate g (map (take_in item) runs) y
      go true held = after-take_in (Opens setting.estate g) LeavesFrame g runs r item y y (table_falls runs well.table) (its_last held) its_number (leaves (its_last held)) expected
      go false held = after-take_in_elsewhere (Opens setting.estate g) LeavesFrame g runs item y (elsewhere held) expected

  pub post-record : (m : ℕ) (side : Side) (y : Post) → (last_of_group g runs ≡ Some r → (x : Post) → ReachPost r m side (wanted g r m) x y → ReachPost (with_record r item) m side (wanted g r m) x y) → ExpectedPost setting.estate g m side runs y → ExpectedPost setting.estate g m side (map (take_in item) runs) y
  post-record m side y step expected = go (holds g r) refl
    where
      leaves : last_of_group g runs ≡ Some r → (x : Post) → LeavesPost r m side (wanted g r m) x y → LeavesPost (with_record r item) m side (wanted g r m) x y
      leaves last x l = rw (still_going r item goes unfin) (step last x (rw unfin at l))

      go : (b : Bool) → holds g r ≡ b → ExpectedPost setting.estate g m side (map (take_in item) runs) y
      go true held = after-take_in (OpensPost setting.estate g m side) (LeavesIts setting.estate g m side) g runs r item y y (table_falls runs well.table) (its_last held) its_number (leaves (its_last held)) expected
      go false held = after-take_in_elsewhere (OpensPost setting.estate g m side) (LeavesIts setting.estate g m side) g runs item y (elsewhere held) expected

-- A Skip or an Aside changes nothing that may have been made

and_first : (d b : Bool) → d ≡ false → d && b ≡ false
and_first d b e = rw e refl

abbrev done_of_first : List Visit → Bool
done_of_first [] = true
done_of_first (v ∷ vs) = v.done

frame_excused : (r : Run) (m stage : ℕ) (vs : List Visit) → open_stage vs ≡ Some stage → (x y : Frame) → Through (FrameStep r) vs x y → Through (FrameStep r) (excuse m vs) x y
frame_excused r m stage [] e x y reach = reach
frame_excused r m stage (v ∷ vs) e x y (mid, reach, step) =
    let (u, rest, same, is, d) = begun_head (v ∷ vs) stage e in
    let open_head : v.done ≡ false = ap done_of_first same ∙ d in
    (mid, reach, rw (and_first v.done (not (has (m ∷ v.excused) all)) open_head) (rw (and_first v.done (not (has v.excused all)) open_head) at step))

post_excused : (r : Run) (k : ℕ) (side : Side) (w : Placed) (m stage : ℕ) (vs : List Visit) → open_stage vs ≡ Some stage → (x y : Post) → Through (PostStep r k side w) vs x y → Through (PostStep r k side w) (excuse m vs) x y
post_excused r k side w m stage [] e x y reach = reach
post_excused r k side w m stage (v ∷ vs) e x y (mid, reach, step) =
    let (u, rest, same, is, d) = begun_head (v ∷ vs) stage e in
    let open_head : v.done ≡ false = ap done_of_first same ∙ d in
    (mid, reach, rw (and_first v.done (not (has (m ∷ v.excused) k)) open_head) (rw (and_first v.done (not (has v.excused k)) open_head) at step))

plain_goes : (item : Record) → IsPlain item → GoesOn item
plain_goes (Record.Attempt n moment) p = refl
plain_goes (Record.Begin n stage) p = refl
plain_goes (Record.Skip n stage m) p = refl
plain_goes (Record.Aside n m by) p = refl
plain_goes (Record.Answer n step text) p = refl
plain_goes (Record.Code n token m code) p = refl
plain_goes (Record.Estate bytes) p = elim p [ ]
plain_goes (Record.Start row) p = elim p [ ]
plain_goes (Record.Done n stage) p = elim p [ ]
plain_goes (Record.Finish n moment ms) p = elim p [ ]

frame_plain : (setting : Setting) (runs : List Run) (r : Run) (item : Record) → IsPlain item → MayCome setting runs item → run_at (run_named item) runs ≡ Some r → (x y : Frame) → ReachFrame r x y → ReachFrame (with_record r item) x y
frame_plain setting runs r (Record.Attempt n moment) p may at_n x y reach = reach
frame_plain setting runs r (Record.Begin n stage) p may at_n x y reach = frame_begin r stage (visits r.log) x y reach
frame_plain setting runs r (Record.Skip n stage m) p may at_n x y reach = let skip = (rw at_n at may).1 in frame_excused r m stage (visits r.log) skip.begun x y reach
frame_plain setting runs r (Record.Aside n m by) p may at_n x y reach = let (stage, aside) = (rw at_n at may).1 in frame_excused r m stage (visits r.log) aside.begun x y reach
frame_plain setting runs r (Record.Answer n step text) p may at_n x y reach = reach
frame_plain setting runs r (Record.Code n token m code) p may at_n x y reach = reach
frame_plain setting runs r (Record.Estate bytes) p may at_n x y reach = elim p [ ]
frame_plain setting runs r (Record.Start row) p may at_n x y reach = elim p [ ]
frame_plain setting runs r (Record.Done n stage) p may at_n x y reach = elim p [ ]
frame_plain setting runs r (Record.Finish n moment ms) p may at_n x y reach = elim p [ ]

post_plain : (setting : Setting) (runs : List Run) (r : Run) (k : ℕ) (side : Side) (w : Placed) (item : Record) → IsPlain item → MayCome setting runs item → run_at (run_named item) runs ≡ Some r → (x y : Post) → ((stage : ℕ) → works r (stage_at (stages_of r) stage) k side ≡ true → kind_at r stage ≡ StageKind.Start → IsAsWanted w y) → ReachPost r k side w x y → ReachPost (with_record r item) k side w x y
post_plain setting runs r k side w (Record.Attempt n moment) p may at_n x y as_wanted reach = reach
post_plain setting runs r k side w (Record.Begin n stage) p may at_n x y as_wanted reach = post_begin r k side w stage (visits r.log) x y (as_wanted stage) reach
post_plain setting runs r k side w (Record.Skip n stage m) p may at_n x y as_wanted reach = let skip = (rw at_n at may).1 in post_excused r k side w m stage (visits r.log) skip.begun x y reach
post_plain setting runs r k side w (Record.Aside n m by) p may at_n x y as_wanted reach = let (stage, aside) = (rw at_n at may).1 in post_excused r k side w m stage (visits r.log) aside.begun x y reach
post_plain setting runs r k side w (Record.Answer n step text) p may at_n x y as_wanted reach = reach
post_plain setting runs r k side w (Record.Code n token m code) p may at_n x y as_wanted reach = reach
post_plain setting runs r k side w (Record.Estate bytes) p may at_n x y as_wanted reach = elim p [ ]
post_plain setting runs r k side w (Record.Start row) p may at_n x y as_wanted reach = elim p [ ]
post_plain setting runs r k side w (Record.Done n stage) p may at_n x y as_wanted reach = elim p [ ]
post_plain setting runs r k side w (Record.Finish n moment ms) p may at_n x y as_wanted reach = elim p [ ]

pub may_open : (setting : Setting) (runs : List Run) (item : Record) → IsPlain item → MayCome setting runs item → (r : Run) × (run_at (run_named item) runs ≡ Some r) × (is_open r ≡ true)
may_open setting runs (Record.Attempt n moment) p may = open_run (run_at n runs) _ may
may_open setting runs (Record.Begin n stage) p may = open_run (run_at n runs) _ may
may_open setting runs (Record.Skip n stage m) p may = open_run (run_at n runs) _ may
may_open setting runs (Record.Aside n m by) p may = open_run (run_at n runs) _ may
may_open setting runs (Record.Answer n step text) p may = open_run (run_at n runs) _ may
may_open setting runs (Record.Code n token m code) p may = open_run (run_at n runs) _ may
may_open setting runs (Record.Estate bytes) p may = elim p [ ]
may_open setting runs (Record.Start row) p may = elim p [ ]
may_open setting runs (Record.Done n stage) p may = elim p [ ]
may_open setting runs (Record.Finish n moment ms) p may = elim p [ ]

-- A lawful plain record leaves every frame and post expected.
module _ (setting : Setting) (runs : List Run) (well : IsWellKept setting runs) (item : Record) (plain : IsPlain item) (may : MayCome setting runs item) (g : ℕ) where
  pub plain_frame : (y : Frame) → ExpectedFrame setting.estate g runs y → ExpectedFrame setting.estate g (map (take_in item) runs) y
  plain_frame y expected =
      let (r, at_n, going) = may_open setting runs item plain may in
      frame-record setting runs well item (plain_goes item plain) r at_n going g y (λ last x reach. frame_plain setting runs r item plain may at_n x y reach) expected

  pub plain_post : (m : ℕ) (side : Side) (y : Post) → ExpectedPost setting.estate g m side runs y → ExpectedPost setting.estate g m side (map (take_in item) runs) y
  plain_post m side y expected =
      let (r, at_n, going) = may_open setting runs item plain may in
      post-record setting runs well item (plain_goes item plain) r at_n going g m side y
      (λ last x reach. post_plain setting runs r m side (wanted g r m) item plain may at_n x y (λ stage worked kind. start_finds setting runs well g m side y r stage last (unfinished (is_finished r) (r.by == 0) going) expected worked kind) reach)
      expected
