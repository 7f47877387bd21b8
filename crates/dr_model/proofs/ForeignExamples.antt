-- The codes of posts and pairs that were found, by hand.
use Rattle.std.specs.Prelude.{◌≡◌, ◌↔◌, ℕ, ◌+◌, ◌≤◌, Bool, true, false, not, is_some, [], ◌∷◌, Option, Some, None, IfSome, option_map}
use Rattle.std.proofs.Common.{refl, sym, ap, ◌∙◌, subst, arith}
use Rattle.dr_base.specs.Sides.{same_side}
use Rattle.dr_outside.specs.declared.pair.Half.{Half}
use Rattle.dr_outside.specs.BySide.{at, only}
use Rattle.dr_outside.specs.Pairs.{Frame, frame_of, half, is_live}
use Rattle.dr_meaning.specs.Types.{Side, Placement, Link, Content, Snapshot, Pair, Placed, Post}
use Rattle.dr_meaning.specs.Opening.{opening_frame}
use Rattle.dr_meaning.specs.Codes.{bit, post_code, half_code}
use Rattle.dr_meaning.specs.Foreign.{PostsExpected, IsExpectedPost, place_in, expected_post_code, IsWantedPost, IsForeignPost, HalvesExpected, IsExpectedHalf, expected_half_code, HasContentOf, FollowsHalf, IsWantedHalf, IsForeignHalf}
use Rattle.dr_model.proofs.ExampleEstate.{estate}
use Rattle.dr_model.proofs.ForeignLaws.{is_same_place}

abbrev home : Placement
home = record { network = 110 ∷ []; folder = 102 ∷ []; pool = 112 ∷ [] }

abbrev away : Placement
away = record { network = 111 ∷ []; folder = 102 ∷ []; pool = 112 ∷ [] }

abbrev placed : Placement → Bool → Placed
placed place bubble = record { place = place; bubble = bubble }

-- Posts --------------------------------------------------------------------------------------------------------------

-- the codes of all posts where home is wanted, at A
pub codes_at_a : (post_code Side.A (Some home) Post.Placeholder ≡ 0) × (post_code Side.A (Some home) (Post.Off (placed home false)) ≡ 1) × (post_code Side.A (Some home) (Post.On (placed home false)) ≡ 2) × (post_code Side.A (Some home) (Post.Ready (placed home false)) ≡ 3)
    × (post_code Side.A (Some home) (Post.Off (placed home true)) ≡ 5) × (post_code Side.A (Some home) (Post.On (placed home true)) ≡ 6) × (post_code Side.A (Some home) (Post.Ready (placed home true)) ≡ 7) × (post_code Side.A (Some home) (Post.Ready (placed away false)) ≡ 11)
codes_at_a = (refl, refl, refl, refl, refl, refl, refl, refl)

-- and at B
pub codes_at_b : (post_code Side.B (Some home) Post.Placeholder ≡ 16) × (post_code Side.B (Some home) (Post.Off (placed home false)) ≡ 17) × (post_code Side.B (Some home) (Post.On (placed home false)) ≡ 18) × (post_code Side.B (Some home) (Post.Ready (placed home false)) ≡ 19)
    × (post_code Side.B (Some home) (Post.Off (placed home true)) ≡ 21) × (post_code Side.B (Some home) (Post.On (placed home true)) ≡ 22) × (post_code Side.B (Some home) (Post.Ready (placed home true)) ≡ 23) × (post_code Side.B (Some home) (Post.Ready (placed away true)) ≡ 31)
codes_at_b = (refl, refl, refl, refl, refl, refl, refl, refl)

-- before any run, where A is protected, a machine in service is wanted at A, wherever the one that was found is placed
in_service : (place : Placement) (found : Post) → place_in found ≡ Some place → IsWantedPost (PostsExpected.BeforeRuns Side.A) Side.A found (Post.Ready (placed place false))
in_service place found at_place = record { is_expected = refl; least = λ post is. at_least post is; nearest = λ post is same near. sym at_place }
  where
    three : expected_post_code Side.A (Post.Ready (placed place false)) ≤ 3
    three = let is = ap (λ b. 3 + (0 + bit 8 (not b)) + 0) (is_same_place place place refl) in omega (arith, is)

    at_least : (post : Post) → IsExpectedPost (PostsExpected.BeforeRuns Side.A) Side.A post → expected_post_code Side.A (Post.Ready (placed place false)) ≤ expected_post_code Side.A post
    at_least Post.Placeholder is = absurd is
    at_least (Post.Off x) is = absurd is
    at_least (Post.On x) is = absurd is
    at_least (Post.Ready x) is = omega (arith, three)

pub off_at_a : IsForeignPost (PostsExpected.BeforeRuns Side.A) Side.A false (Post.Off (placed home false)) 3 1
off_at_a = record { unexpected = λ told is. is; wanted = Post.Ready (placed home false); is_wanted = in_service home (Post.Off (placed home false)) refl; wanted_is = refl; found_is = refl }

pub test_at_a : IsForeignPost (PostsExpected.BeforeRuns Side.A) Side.A false (Post.Ready (placed away true)) 3 7
test_at_a = record { unexpected = λ told is. cc; wanted = Post.Ready (placed away false); is_wanted = in_service away (Post.Ready (placed away true)) refl; wanted_is = refl; found_is = refl }

-- the other codes would be told of a machine that stands elsewhere
pub no_elsewhere : IsForeignPost (PostsExpected.BeforeRuns Side.A) Side.A false (Post.Off (placed home false)) 3 9 → ⊥
no_elsewhere f = go (f.is_wanted.nearest (Post.Ready (placed home false)) refl equal refl) f.found_is
  where
    equal : expected_post_code Side.A (Post.Ready (placed home false)) ≡ expected_post_code Side.A f.wanted
    equal = f.wanted_is

    go : place_in f.wanted ≡ Some home → 9 ≡ post_code Side.A (place_in f.wanted) (Post.Off (placed home false)) → ⊥
    go at_home code = let wrong : 9 ≡ 1 = subst (λ o. 9 ≡ post_code Side.A o (Post.Off (placed home false))) at_home code in omega (arith, wrong)

-- at B a placeholder is wanted, and a registered machine has another place
placeholder : (found : Post) → IsWantedPost (PostsExpected.BeforeRuns Side.A) Side.B found Post.Placeholder
placeholder found = record { is_expected = refl; least = λ post is. subst (λ p. 16 ≤ expected_post_code Side.B p) (sym is) (omega arith); nearest = λ post is same near. ap place_in (sym is) ∙ near }

pub ready_at_b : IsForeignPost (PostsExpected.BeforeRuns Side.A) Side.B false (Post.Ready (placed home false)) 16 27
ready_at_b = record { unexpected = λ told is. cc; wanted = Post.Placeholder; is_wanted = placeholder (Post.Ready (placed home false)); wanted_is = refl; found_is = refl }

-- by a refused call 64 more, also of a post that is expected
pub refused_at_b : IsForeignPost (PostsExpected.BeforeRuns Side.A) Side.B true Post.Placeholder 16 80
refused_at_b = record { unexpected = λ told. absurd cc; wanted = Post.Placeholder; is_wanted = placeholder Post.Placeholder; wanted_is = refl; found_is = refl }

-- which no question tells
pub no_question_of_expected : (a b : ℕ) → IsForeignPost (PostsExpected.BeforeRuns Side.A) Side.B false Post.Placeholder a b → ⊥
no_question_of_expected a b f = f.unexpected refl refl

-- Pairs ----------------------------------------------------------------------------------------------------------------

abbrev content : Content
content = record { line = 0; base = 0; writes = 100 }

-- a pair before any run with the same content at both sides, and its half
abbrev opened : (protected : Side) → Content → Pair
opened protected held = record { source = protected; link = Link.Live; writable = only protected; content = record { a = held; b = held }; snapshot = None }

abbrev opening_half : (protected side : Side) → Content → Half
opening_half protected side held = record { source = protected; link = Link.Live; writable = at side (only protected); content = held; snapshot = None }

same_snapshot : (o : Option Snapshot) → is_some o ≡ is_some (option_map (λ (s : Snapshot). s.run) o)
same_snapshot None = refl
same_snapshot (Some s) = refl

-- the code of a half by its pair's frame
abbrev code_of_frame : Side → Frame → ℕ
code_of_frame side f = bit 1 (same_side f.source Side.B) + bit 2 (not (is_live f.link)) + bit 4 (at side f.writable) + bit 8 (same_side side Side.B) + bit 16 (is_some f.snapshot) + bit 32 false

by_frame : (side : Side) (pair : Pair) → expected_half_code side (half side pair) ≡ code_of_frame side (frame_of pair)
by_frame side pair = ap (λ b. bit 1 (same_side pair.source Side.B) + bit 2 (not (is_live pair.link)) + bit 4 (at side pair.writable) + bit 8 (same_side side Side.B) + bit 16 b + bit 32 false) (same_snapshot pair.snapshot)

opening_code : (protected side : Side) (it : Half) → IsExpectedHalf (HalvesExpected.BeforeRuns protected) side it → expected_half_code side it ≡ code_of_frame side (opening_frame protected)
opening_code protected side it (pair, opening, is) = ap (expected_half_code side) is ∙ by_frame side pair ∙ ap (code_of_frame side) opening.frame

opening_pair : (protected side : Side) (held : Content) → IsExpectedHalf (HalvesExpected.BeforeRuns protected) side (opening_half protected side held)
opening_pair Side.A Side.A held = (opened Side.A held, record { frame = refl; line = refl; behind = omega arith }, refl)
opening_pair Side.A Side.B held = (opened Side.A held, record { frame = refl; line = refl; behind = omega arith }, refl)
opening_pair Side.B Side.A held = (opened Side.B held, record { frame = refl; line = refl; behind = omega arith }, refl)
opening_pair Side.B Side.B held = (opened Side.B held, record { frame = refl; line = refl; behind = omega arith }, refl)

none_of : (o : Option Snapshot) → option_map (λ (s : Snapshot). s.run) o ≡ None → o ≡ None
none_of None e = refl
none_of (Some s) e = absurd cc

-- what each half before any run has
fields : (protected side : Side) (it : Half) → IsExpectedHalf (HalvesExpected.BeforeRuns protected) side it → (it.source ≡ protected) × (it.link ≡ Link.Live) × (it.writable ≡ at side (only protected)) × (it.snapshot ≡ None)
fields protected side it (pair, opening, is) = (
  ap (λ h. h.source) is ∙ ap (λ f. f.source) opening.frame,
  ap (λ h. h.link) is ∙ ap (λ f. f.link) opening.frame,
  ap (λ h. h.writable) is ∙ ap (λ f. at side f.writable) opening.frame,
  ap (λ h. h.snapshot) is ∙ none_of pair.snapshot (ap (λ f. f.snapshot) opening.frame),
)

-- the opening half with the content of the one that was found is wanted
opening_wanted : (protected side : Side) (found : Half) → IsWantedHalf (HalvesExpected.BeforeRuns protected) side found (opening_half protected side found.content)
opening_wanted protected side found = record {
  is_expected = opening_pair protected side found.content;
  least = λ it is. let a = opening_code protected side it is in let b = opening_code protected side (opening_half protected side found.content) (opening_pair protected side found.content) in omega (arith, a, b);
  nearest = λ it is same has. record { content = refl; snapshot = subst (λ o. IfSome found.snapshot (λ s. o ≡ Some s)) (fields protected side it is).3 has.snapshot };
}

-- a half without snapshot has the content that is wanted
plain : (protected side : Side) (found : Half) → found.snapshot ≡ None → true ≡ true ↔ HasContentOf (opening_half protected side found.content) found
plain protected side found none = (λ e. record { content = refl; snapshot = subst (λ o. IfSome o (λ s. None ≡ Some s)) (sym none) tt }, λ has. refl)

module _ (protected side : Side) (found : Half) (unexpected : IsExpectedHalf (HalvesExpected.BeforeRuns protected) side found → ⊥) where
  foreign : (as_wanted : Bool) → (as_wanted ≡ true ↔ HasContentOf (opening_half protected side found.content) found) → IsForeignHalf (HalvesExpected.BeforeRuns protected) side false found (expected_half_code side (opening_half protected side found.content)) (half_code side as_wanted found)
  foreign as_wanted tells = record { unexpected = λ told. unexpected; wanted = opening_half protected side found.content; is_wanted = opening_wanted protected side found; as_wanted = as_wanted; tells_content = tells; wanted_is = refl; found_is = refl }

-- each wrong field where A is protected: the source, the link, whether the side is writable, a snapshot
abbrev from_b : Side → Half
from_b side = record (opening_half Side.A side content) { source = Side.B }

abbrev split : Side → Half
split side = record (opening_half Side.A side content) { link = Link.Split }

abbrev frozen : Half
frozen = record (opening_half Side.A Side.A content) { writable = false }

abbrev written : Half
written = record (opening_half Side.A Side.B content) { writable = true }

abbrev snapped : Side → Half
snapped side = record (opening_half Side.A side content) { snapshot = Some (record { run = 1; content = content }) }

pub wrong_source : IsForeignHalf (HalvesExpected.BeforeRuns Side.A) Side.A false (from_b Side.A) 4 5 × IsForeignHalf (HalvesExpected.BeforeRuns Side.A) Side.B false (from_b Side.B) 8 9
wrong_source = (
  foreign Side.A Side.A (from_b Side.A) (λ is. let wrong : Side.B ≡ Side.A = (fields Side.A Side.A (from_b Side.A) is).0 in cc) true (plain Side.A Side.A (from_b Side.A) refl),
  foreign Side.A Side.B (from_b Side.B) (λ is. let wrong : Side.B ≡ Side.A = (fields Side.A Side.B (from_b Side.B) is).0 in cc) true (plain Side.A Side.B (from_b Side.B) refl),
)

pub wrong_link : IsForeignHalf (HalvesExpected.BeforeRuns Side.A) Side.A false (split Side.A) 4 6 × IsForeignHalf (HalvesExpected.BeforeRuns Side.A) Side.B false (split Side.B) 8 10
wrong_link = (
  foreign Side.A Side.A (split Side.A) (λ is. let wrong : Link.Split ≡ Link.Live = (fields Side.A Side.A (split Side.A) is).1 in cc) true (plain Side.A Side.A (split Side.A) refl),
  foreign Side.A Side.B (split Side.B) (λ is. let wrong : Link.Split ≡ Link.Live = (fields Side.A Side.B (split Side.B) is).1 in cc) true (plain Side.A Side.B (split Side.B) refl),
)

pub wrong_writable : IsForeignHalf (HalvesExpected.BeforeRuns Side.A) Side.A false frozen 4 0 × IsForeignHalf (HalvesExpected.BeforeRuns Side.A) Side.B false written 8 12
wrong_writable = (
  foreign Side.A Side.A frozen (λ is. let wrong : false ≡ true = (fields Side.A Side.A frozen is).2 in cc) true (plain Side.A Side.A frozen refl),
  foreign Side.A Side.B written (λ is. let wrong : true ≡ false = (fields Side.A Side.B written is).2 in cc) true (plain Side.A Side.B written refl),
)

-- no snapshot is wanted
pub wrong_snapshot : IsForeignHalf (HalvesExpected.BeforeRuns Side.A) Side.A false (snapped Side.A) 4 52 × IsForeignHalf (HalvesExpected.BeforeRuns Side.A) Side.B false (snapped Side.B) 8 56
wrong_snapshot = (
  foreign Side.A Side.A (snapped Side.A) (λ is. let wrong : Some (record { run = 1; content = content }) ≡ None = (fields Side.A Side.A (snapped Side.A) is).3 in cc) false (λ e. cc, λ has. absurd (let wrong = has.snapshot in cc)),
  foreign Side.A Side.B (snapped Side.B) (λ is. let wrong : Some (record { run = 1; content = content }) ≡ None = (fields Side.A Side.B (snapped Side.B) is).3 in cc) false (λ e. cc, λ has. absurd (let wrong = has.snapshot in cc)),
)

-- the content of the protected side is judged by the other half, which was read before: it has another line, or more writes
module _ (protected : Side) (other_half : Half) (found : Half) (frame : IsExpectedHalf (HalvesExpected.BeforeRuns protected) protected found) (unlike : FollowsHalf other_half found → ⊥) (follows : FollowsHalf other_half (opening_half protected protected other_half.content)) where
  abbrev expected : HalvesExpected
  expected = HalvesExpected.BeforeRunsBehind protected other_half

  found_code : expected_half_code protected found ≡ code_of_frame protected (opening_frame protected)
  found_code = opening_code protected protected found frame

  no_content : (it : Half) → IsExpectedHalf expected protected it → HasContentOf it found → ⊥
  no_content it is has = unlike (record { line = is.1.line ∙ ap (λ c. c.line) (sym has.content); behind = let le = is.1.behind in let same = ap (λ c. c.writes) has.content in omega (arith, le, same) })

  pub wrong_content : IsForeignHalf expected protected false found (expected_half_code protected (opening_half protected protected other_half.content)) (half_code protected false found)
  wrong_content = record {
    unexpected = λ told is. unlike is.1;
    wanted = opening_half protected protected other_half.content;
    is_wanted = record {
      is_expected = (opening_pair protected protected other_half.content, follows);
      least = λ it is. let a = opening_code protected protected it is.0 in let b = opening_code protected protected (opening_half protected protected other_half.content) (opening_pair protected protected other_half.content) in omega (arith, a, b);
      nearest = λ it is same has. absurd (no_content it is has);
    };
    as_wanted = false;
    tells_content = (λ e. cc, λ has. absurd (no_content (opening_half protected protected other_half.content) (opening_pair protected protected other_half.content, follows) has));
    wanted_is = refl;
    found_is = refl;
  }

abbrev behind : Content
behind = record { line = 0; base = 0; writes = 95 }

pub wrong_content_at_a : IsForeignHalf (HalvesExpected.BeforeRunsBehind Side.A (opening_half Side.A Side.B content)) Side.A false (opening_half Side.A Side.A behind) 4 36
wrong_content_at_a = wrong_content Side.A (opening_half Side.A Side.B content) (opening_half Side.A Side.A behind) (opening_pair Side.A Side.A behind) (λ follows. let le = follows.behind in omega (arith, le)) (record { line = refl; behind = omega arith })

pub wrong_content_at_b : IsForeignHalf (HalvesExpected.BeforeRunsBehind Side.B (opening_half Side.B Side.A content)) Side.B false (opening_half Side.B Side.B behind) 13 45
wrong_content_at_b = wrong_content Side.B (opening_half Side.B Side.A content) (opening_half Side.B Side.B behind) (opening_pair Side.B Side.B behind) (λ follows. let le = follows.behind in omega (arith, le)) (record { line = refl; behind = omega arith })

-- and so is another line
abbrev of_line : Content
of_line = record { line = 7; base = 0; writes = 140 }

pub wrong_line_at_a : IsForeignHalf (HalvesExpected.BeforeRunsBehind Side.A (opening_half Side.A Side.B content)) Side.A false (opening_half Side.A Side.A of_line) 4 36
wrong_line_at_a = wrong_content Side.A (opening_half Side.A Side.B content) (opening_half Side.A Side.A of_line) (opening_pair Side.A Side.A of_line) (λ follows. let wrong = follows.line in omega (arith, wrong)) (record { line = refl; behind = omega arith })

-- By runs ----------------------------------------------------------------------------------------------------------------

-- in a group that had no run a half of another source isn't expected, nor a placeholder where machines serve, nor a registered machine at the other side
pub unexpected_by_runs : IsExpectedHalf (HalvesExpected.ByRuns estate 0 0 []) Side.A (from_b Side.A) → ⊥
unexpected_by_runs (pair, fits, is) = let wrong : Side.B ≡ Side.A = ap (λ h. h.source) is ∙ ap (λ f. f.source) fits.frame in cc

pub unexpected_posts : (IsExpectedPost (PostsExpected.ByRuns estate 0 0 []) Side.A Post.Placeholder → ⊥) × (IsExpectedPost (PostsExpected.ByRuns estate 0 0 []) Side.B (Post.Off (placed home false)) → ⊥)
unexpected_posts = (λ is. is, λ is. cc)

pub expected_posts : IsExpectedPost (PostsExpected.ByRuns estate 0 0 []) Side.A (Post.Ready (placed home false)) × IsExpectedPost (PostsExpected.ByRuns estate 0 0 []) Side.B Post.Placeholder
expected_posts = (refl, refl)
