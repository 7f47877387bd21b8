-- What is left of one post.
use Rattle.std.specs.Prelude.{◌≡◌, ◌↔◌, ◌⊎◌, ℕ, ◌+◌, ◌<◌, Bool, true, false, not, IsTrue, List, [], ◌∷◌, ◌++◌, length, take, slice_get, Option, None, ◌≤◌, Result, Ok, Err, IfOk, if◌then◌else◌}
use Rattle.std.specs.Bool.{MatchBool}
use Rattle.std.proofs.Common.{Vec, Global, get_or}
use Rattle.std.proofs.lemmas.List.{take_more}
use Rattle.dr_base.specs.declared.failure.NoMemory.{NoMemory}
use Rattle.dr_base.specs.Sides.{same_side}
use Rattle.dr_mappings.specs.Placements.{place_of, placed, network_at, folder_at, pool_at, network_in}
use Rattle.std.proofs.lemmas.Option.{slice_get_past}
use Rattle.dr_meaning.specs.Stages.{stage_at}
use Rattle.dr_meaning.specs.Visits.{Visit}
use Rattle.dr_meaning.specs.Runs.{Run, op, stages_of, is_finished}
use Rattle.dr_meaning.specs.Reach.{works, is_complete, PostStep, ReachPost}
use Rattle.dr_meaning.specs.Meaning.{MeansPost, OldPostMeaning, NewPostMeaning, is_stop_skipped, is_left}
use Rattle.std.proofs.Common.{refl, sym, ap, ◌∙◌, inl, inr, subst}
use Rattle.dr_meaning.specs.Types.{Side, Op, Estate, Placed, Post}
use Rattle.dr_meaning.specs.declared.stage.StageKind.{StageKind}
use Rattle.dr_meaning.specs.Outcomes.{IsOneOf, stopped, made_post, start_leaves, failure_leaves, PostOutcome}
use Rattle.dr_meaning.specs.Expected.{no_place, given, LeavesPost}
use Rattle.dr_expected.proofs.ShownLaws.{adds-one, leads-same, shows-push}
use Rattle.dr_expected.specs.declared.posts.Wanted.{Wanted}
use Rattle.dr_expected.specs.declared.posts.Spot.{Spot}
use Rattle.dr_expected.specs.declared.posts.Standing.{Standing}
use Rattle.dr_expected.specs.Expecting.{HasItemFor, Gains, Adds, Leads}
use Rattle.dr_expected.specs.Standings.{placed_value, IsAt, IsStanding, stopped_standing, made_standing, start_standings, failed_standings, PostOver, AnyStands, GainsAll, old_kind, new_kind, is_old_sure, is_new_sure, meant_kind, is_sure}

module _ {S X : Type 0} (D : S → X → Type 0) where
  pub gains-none : (list : List S) → GainsAll D [] list list
  gains-none list = record { exactly = λ y. (λ h. inl h, back y) }
    where
      back : (y : X) → HasItemFor D list y ⊎ ⊥ → HasItemFor D list y
      back y (inl h) = h
      back y (inr no_one) = absurd no_one

  pub gains-more : (s : S) (items before mid after : List S) → Gains D s before mid → GainsAll D items mid after → GainsAll D (s ∷ items) before after
  gains-more s items before mid after first rest = record { exactly = λ y. (λ h. there y ((rest.exactly y).0 h), back y) }
    where
      early : (y : X) → HasItemFor D before y ⊎ D s y → HasItemFor D before y ⊎ (D s y ⊎ AnyStands D items y)
      early y (inl h) = inl h
      early y (inr d) = inr (inl d)

      there : (y : X) → HasItemFor D mid y ⊎ AnyStands D items y → HasItemFor D before y ⊎ (D s y ⊎ AnyStands D items y)
      there y (inl h) = early y ((first.exactly y).0 h)
      there y (inr a) = inr (inr a)

      back : (y : X) → HasItemFor D before y ⊎ (D s y ⊎ AnyStands D items y) → HasItemFor D after y
      back y (inl h) = (rest.exactly y).1 (inl ((first.exactly y).1 (inl h)))
      back y (inr (inl d)) = (rest.exactly y).1 (inl ((first.exactly y).1 (inr d)))
      back y (inr (inr a)) = (rest.exactly y).1 (inr a)

  pub gains-one : (s : S) (before after : List S) → Gains D s before after → GainsAll D (s ∷ []) before after
  gains-one s before after gains = gains-more s [] before after after gains (gains-none after)

  pub adds-all : (R : X → X → Type 0) (s : S) (items before after : List S) → GainsAll D items before after → ((y : X) → AnyStands D items y ↔ ((x : X) × D s x × R x y)) → Adds D R s before after
  adds-all R s items before after gains same = record { exactly = λ y. (λ h. there y ((gains.exactly y).0 h), λ h. (gains.exactly y).1 (back y h)) }
    where
      there : (y : X) → HasItemFor D before y ⊎ AnyStands D items y → HasItemFor D before y ⊎ ((x : X) × D s x × R x y)
      there y (inl h) = inl h
      there y (inr a) = inr ((same y).0 a)

      back : (y : X) → HasItemFor D before y ⊎ ((x : X) × D s x × R x y) → HasItemFor D before y ⊎ AnyStands D items y
      back y (inl h) = inl h
      back y (inr r) = inr ((same y).1 r)

-- some placement is there
pub some_placed : (spot : Spot) → (placed : Placed) × IsAt spot placed
some_placed Spot.Opening = (record { place = no_place; bubble = false }, refl)
some_placed (Spot.At w) = (placed_value w, refl)

-- some post stands so
pub some_post : (s : Standing) → (x : Post) × IsStanding s x
some_post Standing.Placeholder = (Post.Placeholder, tt)
some_post (Standing.Off spot) = let (p, at) = some_placed spot in (Post.Off p, at)
some_post (Standing.On spot) = let (p, at) = some_placed spot in (Post.On p, at)
some_post (Standing.Ready spot) = let (p, at) = some_placed spot in (Post.Ready p, at)

-- what a post is that stands so
pub is_placeholder : (y : Post) → IsStanding Standing.Placeholder y → y ≡ Post.Placeholder
is_placeholder Post.Placeholder h = refl
is_placeholder (Post.Off p) h = absurd h
is_placeholder (Post.On p) h = absurd h
is_placeholder (Post.Ready p) h = absurd h

pub is_off : (spot : Spot) (y : Post) → IsStanding (Standing.Off spot) y → (p : Placed) × IsAt spot p × (y ≡ Post.Off p)
is_off spot Post.Placeholder h = absurd h
is_off spot (Post.Off p) h = (p, h, refl)
is_off spot (Post.On p) h = absurd h
is_off spot (Post.Ready p) h = absurd h

pub is_on : (spot : Spot) (y : Post) → IsStanding (Standing.On spot) y → (p : Placed) × IsAt spot p × (y ≡ Post.On p)
is_on spot Post.Placeholder h = absurd h
is_on spot (Post.Off p) h = absurd h
is_on spot (Post.On p) h = (p, h, refl)
is_on spot (Post.Ready p) h = absurd h

pub is_ready : (spot : Spot) (y : Post) → IsStanding (Standing.Ready spot) y → (p : Placed) × IsAt spot p × (y ≡ Post.Ready p)
is_ready spot Post.Placeholder h = absurd h
is_ready spot (Post.Off p) h = absurd h
is_ready spot (Post.On p) h = absurd h
is_ready spot (Post.Ready p) h = (p, h, refl)

-- a post that is another one, which stands so
pub stands_as : (s : Standing) (x y : Post) → IsStanding s x → y ≡ x → IsStanding s y
stands_as s x y h e = subst (λ z. IsStanding s z) (sym e) h

-- what is kept, and what is stopped
pub kept_stands : (s : Standing) (y : Post) → IsStanding s y ↔ ((x : Post) × IsStanding s x × (y ≡ x))
kept_stands s y = (λ h. (y, h, refl), λ (x, h, e). stands_as s x y h e)

pub stopped_stands : (s : Standing) (y : Post) → IsStanding (stopped_standing s) y ↔ ((x : Post) × IsStanding s x × (y ≡ stopped x))
stopped_stands Standing.Placeholder y = (
  λ h. (Post.Placeholder, tt, is_placeholder y h),
  λ (x, h, e). stands_as Standing.Placeholder Post.Placeholder y tt (e ∙ ap (λ z. stopped z) (is_placeholder x h)),
)
stopped_stands (Standing.Off spot) y = (
  λ h. let (p, at, e) = is_off spot y h in (Post.Off p, at, e),
  λ (x, h, e). let (p, at, is) = is_off spot x h in stands_as (Standing.Off spot) (Post.Off p) y at (e ∙ ap (λ z. stopped z) is),
)
stopped_stands (Standing.On spot) y = (
  λ h. let (p, at, e) = is_off spot y h in (Post.On p, at, e),
  λ (x, h, e). let (p, at, is) = is_on spot x h in stands_as (Standing.Off spot) (Post.Off p) y at (e ∙ ap (λ z. stopped z) is),
)
stopped_stands (Standing.Ready spot) y = (
  λ h. let (p, at, e) = is_off spot y h in (Post.Ready p, at, e),
  λ (x, h, e). let (p, at, is) = is_ready spot x h in stands_as (Standing.Off spot) (Post.Off p) y at (e ∙ ap (λ z. stopped z) is),
)

module _ (w : Wanted) where
  -- what a start leaves
  pub off_wanted : (y : Post) → IsStanding (Standing.Off (Spot.At w)) y ↔ (y ≡ Post.Off (placed_value w))
  off_wanted y = (
    λ h. let (p, at, e) = is_off (Spot.At w) y h in e ∙ ap (λ q. Post.Off q) at,
    λ e. stands_as (Standing.Off (Spot.At w)) (Post.Off (placed_value w)) y refl e,
  )

  pub on_wanted : (y : Post) → IsStanding (Standing.On (Spot.At w)) y ↔ (y ≡ Post.On (placed_value w))
  on_wanted y = (
    λ h. let (p, at, e) = is_on (Spot.At w) y h in e ∙ ap (λ q. Post.On q) at,
    λ e. stands_as (Standing.On (Spot.At w)) (Post.On (placed_value w)) y refl e,
  )

  pub ready_wanted : (y : Post) → IsStanding (Standing.Ready (Spot.At w)) y ↔ (y ≡ Post.Ready (placed_value w))
  ready_wanted y = (
    λ h. let (p, at, e) = is_ready (Spot.At w) y h in e ∙ ap (λ q. Post.Ready q) at,
    λ e. stands_as (Standing.Ready (Spot.At w)) (Post.Ready (placed_value w)) y refl e,
  )

  pub made_stands : (kind : StageKind) (s : Standing) (y : Post) → IsStanding (made_standing kind w s) y ↔ ((x : Post) × IsStanding s x × (y ≡ made_post kind (placed_value w) x))
  made_stands StageKind.Start s y = (
    λ h. let (x, some) = some_post s in (x, some, (ready_wanted y).0 h),
    λ (x, h, e). (ready_wanted y).1 e,
  )
  made_stands StageKind.Stop s y = stopped_stands s y
  made_stands StageKind.Clear s y = (
    λ h. let (x, some) = some_post s in (x, some, is_placeholder y h),
    λ (x, h, e). stands_as Standing.Placeholder Post.Placeholder y tt e,
  )
  made_stands _ s y = kept_stands s y

  -- Off or On, as wanted
  pub started : (y : Post) → AnyStands IsStanding (Standing.Off (Spot.At w) ∷ Standing.On (Spot.At w) ∷ []) y ↔ ((y ≡ Post.Off (placed_value w)) ⊎ (y ≡ Post.On (placed_value w)))
  started y = (there, back)
    where
      there : IsStanding (Standing.Off (Spot.At w)) y ⊎ (IsStanding (Standing.On (Spot.At w)) y ⊎ ⊥) → (y ≡ Post.Off (placed_value w)) ⊎ (y ≡ Post.On (placed_value w))
      there (inl h) = inl ((off_wanted y).0 h)
      there (inr (inl h)) = inr ((on_wanted y).0 h)
      there (inr (inr none)) = absurd none

      back : (y ≡ Post.Off (placed_value w)) ⊎ (y ≡ Post.On (placed_value w)) → IsStanding (Standing.Off (Spot.At w)) y ⊎ (IsStanding (Standing.On (Spot.At w)) y ⊎ ⊥)
      back (inl e) = inl ((off_wanted y).1 e)
      back (inr e) = inr (inl ((on_wanted y).1 e))

  pub starts_stand : (s : Standing) (y : Post) → AnyStands IsStanding (start_standings w s) y ↔ ((x : Post) × IsStanding s x × IsOneOf (start_leaves (placed_value w) x) y)
  starts_stand Standing.Placeholder y = (there, back)
    where
      there : IsStanding Standing.Placeholder y ⊎ AnyStands IsStanding (Standing.Off (Spot.At w) ∷ Standing.On (Spot.At w) ∷ []) y → (x : Post) × IsStanding Standing.Placeholder x × IsOneOf (start_leaves (placed_value w) x) y
      there (inl h) = (Post.Placeholder, tt, inl (is_placeholder y h))
      there (inr a) = (Post.Placeholder, tt, inr ((started y).0 a))

      back : (x : Post) × IsStanding Standing.Placeholder x × IsOneOf (start_leaves (placed_value w) x) y → IsStanding Standing.Placeholder y ⊎ AnyStands IsStanding (Standing.Off (Spot.At w) ∷ Standing.On (Spot.At w) ∷ []) y
      back (Post.Placeholder, h, inl e) = inl (stands_as Standing.Placeholder Post.Placeholder y tt e)
      back (Post.Placeholder, h, inr o) = inr ((started y).1 o)
      back (Post.Off p, h, o) = absurd h
      back (Post.On p, h, o) = absurd h
      back (Post.Ready p, h, o) = absurd h
  starts_stand (Standing.Off spot) y = (
    λ a. let (p, at) = some_placed spot in (Post.Off p, at, (started y).0 a),
    λ (x, h, o). let (p, at, e) = is_off spot x h in (started y).1 (subst (λ z. IsOneOf (start_leaves (placed_value w) z) y) e o),
  )
  starts_stand (Standing.On spot) y = (
    λ a. let (p, at) = some_placed spot in (Post.On p, at, (started y).0 a),
    λ (x, h, o). let (p, at, e) = is_on spot x h in (started y).1 (subst (λ z. IsOneOf (start_leaves (placed_value w) z) y) e o),
  )
  starts_stand (Standing.Ready spot) y = (
    λ none. absurd none,
    λ (x, h, o). let (p, at, e) = is_ready spot x h in subst (λ z. IsOneOf (start_leaves (placed_value w) z) y) e o,
  )

  pub failed_stand : (kind : StageKind) (s : Standing) (y : Post) → AnyStands IsStanding (failed_standings kind w s) y ↔ ((x : Post) × IsStanding s x × IsOneOf (failure_leaves kind (placed_value w) x) y)
  failed_stand StageKind.Start s y = starts_stand s y
  failed_stand StageKind.Stop s y = (there, λ h. inl ((kept_stands s y).1 h))
    where
      there : IsStanding s y ⊎ ⊥ → (x : Post) × IsStanding s x × (y ≡ x)
      there (inl h) = (kept_stands s y).0 h
      there (inr none) = absurd none
  failed_stand StageKind.Clear s y = (there, back)
    where
      there : IsStanding s y ⊎ (IsStanding (stopped_standing s) y ⊎ ⊥) → (x : Post) × IsStanding s x × ((y ≡ x) ⊎ (y ≡ stopped x))
      there (inl h) = (y, h, inl refl)
      there (inr (inl h)) = let (x, is, e) = (stopped_stands s y).0 h in (x, is, inr e)
      there (inr (inr none)) = absurd none

      back : (x : Post) × IsStanding s x × ((y ≡ x) ⊎ (y ≡ stopped x)) → IsStanding s y ⊎ (IsStanding (stopped_standing s) y ⊎ ⊥)
      back (x, h, inl e) = inl (stands_as s x y h e)
      back (x, h, inr e) = inr (inl ((stopped_stands s y).1 (x, h, e)))
  failed_stand _ s y = (λ none. absurd none, λ (x, h, none). none)

  module _ (kind : StageKind) (complete : Bool) (s : Standing) (before : List Standing) where
    pub adds_sure : (after : List Standing) → complete ≡ true → Gains IsStanding (made_standing kind w s) before after → Adds IsStanding (PostOver kind (placed_value w) complete) s before after
    adds_sure after done gains = rw done (adds-one IsStanding (PostOver kind (placed_value w) true) s (made_standing kind w s) before after gains (made_stands kind s))

    pub adds_unsure : (mid after : List Standing) → complete ≡ false → Gains IsStanding (made_standing kind w s) before mid → GainsAll IsStanding (failed_standings kind w s) mid after → Adds IsStanding (PostOver kind (placed_value w) complete) s before after
    adds_unsure mid after partly made failed =
        rw partly (adds-all IsStanding (PostOver kind (placed_value w) false) s (made_standing kind w s ∷ failed_standings kind w s) before after (gains-more IsStanding (made_standing kind w s) (failed_standings kind w s) before mid after made failed) (λ y. (there y, back y)))
      where
        there : (y : Post) → IsStanding (made_standing kind w s) y ⊎ AnyStands IsStanding (failed_standings kind w s) y → (x : Post) × IsStanding s x × PostOutcome kind (placed_value w) x y
        there y (inl h) = let (x, is, e) = (made_stands kind s y).0 h in (x, is, inl e)
        there y (inr a) = let (x, is, o) = (failed_stand kind s y).0 a in (x, is, inr o)

        back : (y : Post) → (x : Post) × IsStanding s x × PostOutcome kind (placed_value w) x y → IsStanding (made_standing kind w s) y ⊎ AnyStands IsStanding (failed_standings kind w s) y
        back y (x, is, inl e) = inl ((made_stands kind s y).1 (x, is, e))
        back y (x, is, inr o) = inr ((failed_stand kind s y).1 (x, is, o))

-- What a finished run means is what one stage leaves, at either side.

pub old_means : (o : Op) (forced : Bool) (run : Run) (machine : ℕ) (wanted : Placed) (x y : Post) → PostOver (old_kind o forced) wanted (is_old_sure o forced run machine) x y ↔ OldPostMeaning o forced run machine x y
old_means Op.Testing forced run machine wanted x y = (λ h. h, λ h. h)
old_means Op.Cleanup forced run machine wanted x y = (λ h. h, λ h. h)
old_means Op.Migrate forced run machine wanted x y = (λ h. h, λ h. h)
old_means Op.Failover true run machine wanted x y = (λ h. h, λ h. h)
old_means Op.Failover false run machine wanted x y = go (is_stop_skipped run machine)
  where
    go : (b : Bool) → MatchBool (not b) (y ≡ stopped x) ((y ≡ stopped x) ⊎ (y ≡ x)) ↔ ((y ≡ stopped x) ⊎ (IsTrue b × (y ≡ x)))
    go true = (there, back)
      where
        there : (y ≡ stopped x) ⊎ (y ≡ x) → (y ≡ stopped x) ⊎ (IsTrue true × (y ≡ x))
        there (inl e) = inl e
        there (inr e) = inr (refl, e)

        back : (y ≡ stopped x) ⊎ (IsTrue true × (y ≡ x)) → (y ≡ stopped x) ⊎ (y ≡ x)
        back (inl e) = inl e
        back (inr (t, e)) = inr e
    go false = (λ e. inl e, back)
      where
        back : (y ≡ stopped x) ⊎ (IsTrue false × (y ≡ x)) → y ≡ stopped x
        back (inl e) = e
        back (inr (t, e)) = absurd (let wrong : false ≡ true = t in cc)
old_means Op.Reprotect forced run machine wanted x y = (λ h. h, λ h. h)

pub new_means : (o : Op) (run : Run) (machine : ℕ) (wanted : Placed) (x y : Post) → PostOver (new_kind o) wanted (is_new_sure o run machine) x y ↔ NewPostMeaning o run machine wanted x y
new_means Op.Testing run machine wanted x y = (λ h. h, λ h. h)
new_means Op.Cleanup run machine wanted x y = (λ h. h, λ h. h)
new_means Op.Migrate run machine wanted x y = (λ h. h, λ h. h)
new_means Op.Failover run machine wanted x y = go (is_left run machine)
  where
    go : (b : Bool) → MatchBool (not b) (y ≡ Post.Ready wanted) (PostOutcome StageKind.Start wanted x y) ↔ ((y ≡ Post.Ready wanted) ⊎ (IsTrue b × PostOutcome StageKind.Start wanted x y))
    go true = (λ o. inr (refl, o), back)
      where
        back : (y ≡ Post.Ready wanted) ⊎ (IsTrue true × PostOutcome StageKind.Start wanted x y) → PostOutcome StageKind.Start wanted x y
        back (inl e) = inl e
        back (inr (t, o)) = o
    go false = (λ e. inl e, back)
      where
        back : (y ≡ Post.Ready wanted) ⊎ (IsTrue false × PostOutcome StageKind.Start wanted x y) → y ≡ Post.Ready wanted
        back (inl e) = e
        back (inr (t, o)) = absurd (let wrong : false ≡ true = t in cc)
new_means Op.Reprotect run machine wanted x y = (λ h. h, λ h. h)

pub means_post : (run : Run) (machine : ℕ) (side : Side) (wanted : Placed) (x y : Post) → PostOver (meant_kind run side) wanted (is_sure run machine side) x y ↔ MeansPost run machine side wanted x y
means_post run machine side wanted x y = go (same_side side run.old)
  where
    go : (b : Bool) → PostOver (if b then old_kind (op run) run.start.forced else new_kind (op run)) wanted (if b then is_old_sure (op run) run.start.forced run machine else is_new_sure (op run) run machine) x y ↔ MatchBool b (OldPostMeaning (op run) run.start.forced run machine x y) (NewPostMeaning (op run) run machine wanted x y)
    go true = old_means (op run) run.start.forced run machine wanted x y
    go false = new_means (op run) run machine wanted x y

-- an answer that leads on, by another name of the same
pub ok-leads : (R Q : Post → Post → Type 0) (list : List Standing) (result : Result (Vec Standing Global) NoMemory) → ((x y : Post) → R x y ↔ Q x y) → IfOk result (λ next. Leads IsStanding R list next.items) → IfOk result (λ next. Leads IsStanding Q list next.items)
ok-leads R Q list (Err e) same h = h
ok-leads R Q list (Ok next) same h = leads-same IsStanding R Q list next.items same h

module _ (run walked : Run) (machine : ℕ) (side : Side) (wanted : Placed) (list : List Standing) where
  -- what a finished run leaves is what it means
  pub leaves_meant : (given : List Standing) (result : Result (Vec Standing Global) NoMemory) → walked ≡ run → given ≡ list → is_finished run ≡ true → IfOk result (λ next. Leads IsStanding (MeansPost walked machine side wanted) given next.items) → IfOk result (λ next. Leads IsStanding (LeavesPost run machine side wanted) list next.items)
  leaves_meant given (Err e) same is finished h = h
  leaves_meant given (Ok next) same is finished h =
      leads-same IsStanding (MeansPost run machine side wanted) (LeavesPost run machine side wanted) list next.items (λ x y. (λ m. rw finished m, λ m. rw finished at m)) (rw (same, is) at h)

  -- and any other one what it may have made
  pub leaves_reached : (result : Result (Vec Standing Global) NoMemory) → walked ≡ run → is_finished run ≡ false → IfOk result (λ next. Leads IsStanding (ReachPost walked machine side wanted) list next.items) → IfOk result (λ next. Leads IsStanding (LeavesPost run machine side wanted) list next.items)
  leaves_reached (Err e) same going h = h
  leaves_reached (Ok next) same going h =
      leads-same IsStanding (ReachPost run machine side wanted) (LeavesPost run machine side wanted) list next.items (λ x y. (λ m. rw going m, λ m. rw going at m)) (rw same at h)

module _ (run : Run) (machine : ℕ) (side : Side) (wanted : Placed) (visit : Visit) where
  -- a visit of a stage that works the machine
  pub works_it : works run (stage_at (stages_of run) visit.stage) machine side ≡ true → (x y : Post) → PostOver (stage_at (stages_of run) visit.stage).kind wanted (is_complete machine visit) x y ↔ PostStep run machine side wanted visit x y
  works_it t x y = (λ h. rw t h, λ h. rw t at h)

  -- and of any other
  pub leaves_it : works run (stage_at (stages_of run) visit.stage) machine side ≡ false → (x y : Post) → (y ≡ x) ↔ PostStep run machine side wanted visit x y
  leaves_it t x y = (λ h. rw t h, λ h. rw t at h)

-- where no network is given there is no placement
placed_none : (machine : ℕ) (side : Side) (network folder pool used : Option (List ℕ)) → network ≡ None → no_place ≡ given (placed machine side network folder pool used)
placed_none machine side network folder pool used none = rw none refl

-- a machine that the estate doesn't have has no network
network_none : (estate : Estate) (machine : ℕ) (home side : Side) → slice_get estate.machines machine ≡ None → network_at estate machine home side ≡ None
network_none estate machine home side none = rw none (go (same_side home side))
  where
    go : (b : Bool) → ◌≡◌ {A = Option (List ℕ)} (if b then None else None) None
    go true = refl
    go false = refl

-- and so no placement
pub none_placed : (estate : Estate) (machine : ℕ) (home side : Side) (bubble : Bool) → length estate.machines ≤ machine → no_place ≡ given (place_of estate machine home side bubble)
unfolding place_of
none_placed estate machine home side bubble past =
    placed_none machine side (network_at estate machine home side) (folder_at estate machine home side) (pool_at estate machine home side) (network_in estate side bubble (network_at estate machine home side))
    (network_none estate machine home side (slice_get_past estate.machines machine past))

module _ (list : List Standing) (i : ℕ) (s : Standing) (y : Post) (below : i < length list) (is : s ≡ get_or list i s) where
  more : take (i + 1) list ≡ take i list ++ s ∷ []
  more = take_more list i s below ∙ ap (λ z. take i list ++ z ∷ []) (sym is)

  -- a search of the list, where the next one fits
  pub shows-here : (found : Bool) → found ≡ true → IsStanding s y → IsTrue found ↔ HasItemFor IsStanding (take (i + 1) list) y
  shows-here found e stands = (λ t. rw more ((shows-push IsStanding (take i list) s y).1 (inr stands)), λ h. e)

  -- and where it doesn't
  pub shows-on : (found before : Bool) → found ≡ before → (IsStanding s y → ⊥) → (IsTrue before ↔ HasItemFor IsStanding (take i list) y) → IsTrue found ↔ HasItemFor IsStanding (take (i + 1) list) y
  shows-on found before e not known = rw (e, more) (
    (λ t. (shows-push IsStanding (take i list) s y).1 (inl (known.0 t))),
    λ h. known.1 (early ((shows-push IsStanding (take i list) s y).0 h)),
  )
    where
      early : HasItemFor IsStanding (take i list) y ⊎ IsStanding s y → HasItemFor IsStanding (take i list) y
      early (inl h) = h
      early (inr d) = absurd (not d)
