-- The laws of the walk, for the post of a machine of a group whose last run is r.
use Rattle.std.specs.Prelude.{◌≡◌, ℕ, ◌⊎◌, true, false, List, ◌∷◌, Some, map}
use Rattle.std.proofs.Common.{refl}
use Rattle.dr_meaning.specs.Types.{Side, Post, Estate, Record}
use Rattle.dr_meaning.specs.declared.stage.StageKind.{StageKind}
use Rattle.dr_base.specs.Lists.{has}
use Rattle.dr_meaning.specs.Stages.{stage_at}
use Rattle.dr_meaning.specs.Visits.{Visit, visits}
use Rattle.dr_meaning.specs.Runs.{Run, number, stages_of, is_finished, last_of_group, take_in}
use Rattle.dr_meaning.specs.Outcomes.{IsAsWanted, made_post, PostOutcome}
use Rattle.dr_meaning.specs.Reach.{works, ReachPost}
use Rattle.dr_meaning.specs.Expected.{LeavesPost, wanted, ExpectedPost}
use Rattle.dr_model.proofs.ReachLaws.{begun_visit, kind_at, post_begin, post_call, post_done}
use Rattle.dr_model.proofs.ExpectedLaws.{Falls, after-take_in, after-call}

module _ (estate : Estate) (g m : ℕ) (side : Side) (runs : List Run) (r : Run) (falls : Falls runs) (last : last_of_group g runs ≡ Some r) (going : is_finished r ≡ false) where
  pub post-begin : (stage : ℕ) (y : Post) → (works r (stage_at (stages_of r) stage) m side ≡ true → kind_at r stage ≡ StageKind.Start → IsAsWanted (wanted g r m) y) → ExpectedPost estate g m side runs y → ExpectedPost estate g m side (map (take_in (Record.Begin (number r) stage)) runs) y
  post-begin stage y as_wanted h =
      after-take_in _ (λ run x y. LeavesPost run m side (wanted g run m) x y) g runs r (Record.Begin (number r) stage) y y falls last refl
      (λ x l. rw going (post_begin r m side (wanted g r m) stage (visits r.log) x y as_wanted (let reach : ReachPost r m side (wanted g r m) x y = rw going at l in reach))) h

  pub post-call : (stage : ℕ) (excused : List ℕ) (vs : List Visit) (y z : Post) → visits r.log ≡ begun_visit stage excused ∷ vs → works r (stage_at (stages_of r) stage) m side ≡ true → PostOutcome (kind_at r stage) (wanted g r m) y z → ExpectedPost estate g m side runs y → ExpectedPost estate g m side runs z
  post-call stage excused vs y z begun worked out h =
      after-call _ (λ run x y. LeavesPost run m side (wanted g run m) x y) g runs r y z last
      (λ x l. rw (going, begun) (post_call r m side (wanted g r m) stage excused vs x y z worked (rw begun at (let reach : ReachPost r m side (wanted g r m) x y = rw going at l in reach)) out)) h

  pub post-done : (stage : ℕ) (excused : List ℕ) (vs : List Visit) (y : Post) → visits r.log ≡ begun_visit stage excused ∷ vs → (works r (stage_at (stages_of r) stage) m side ≡ true → (has excused m ≡ true) ⊎ (made_post (kind_at r stage) (wanted g r m) y ≡ y)) → ExpectedPost estate g m side runs y → ExpectedPost estate g m side (map (take_in (Record.Done (number r) stage)) runs) y
  post-done stage excused vs y begun made h =
      after-take_in _ (λ run x y. LeavesPost run m side (wanted g run m) x y) g runs r (Record.Done (number r) stage) y y falls last refl
      (λ x l. rw (going, begun) (post_done r m side (wanted g r m) stage excused vs x y (rw begun at (let reach : ReachPost r m side (wanted g r m) x y = rw going at l in reach)) made)) h
