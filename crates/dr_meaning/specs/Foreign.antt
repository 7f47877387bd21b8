-- The two codes of an answer that an object was found as the journal excludes: of the state that is wanted, and of the one found.
use Rattle.std.specs.Prelude.{◌≡◌, ◌↔◌, ℕ, ◌≤◌, Bool, true, false, if◌then◌else◌, List, Option, None, Some, IfSome}
use Rattle.dr_outside.specs.declared.pair.Half.{Half}
use Rattle.dr_outside.specs.Pairs.{half}
use Rattle.dr_meaning.specs.Types.{Side, Placement, Pair, Post, Estate}
use Rattle.dr_meaning.specs.Opening.{IsOpeningPair}
use Rattle.dr_meaning.specs.Worlds.{IsOpeningPost}
use Rattle.dr_meaning.specs.Runs.{Run}
use Rattle.dr_meaning.specs.Expected.{ExpectedPost}
use Rattle.dr_meaning.specs.Fits.{FitsPair}
use Rattle.dr_meaning.specs.Codes.{post_code, half_code, told_by_refusal}

-- a code as it is told: by a question, or by a call that was refused
abbrev pub told_code : (refused : Bool) → ℕ → ℕ
told_code refused code = if refused then told_by_refusal code else code

-- Machines -------------------------------------------------------------------------------------------------

-- which posts of a machine are expected: those that runs allow it in a group, or those before any run where a side is protected
pub data PostsExpected : Type 0 where
  ByRuns : Estate → (group machine : ℕ) → List Run → PostsExpected
  BeforeRuns : (protected : Side) → PostsExpected

-- the post is one of them at a side
abbrev pub IsExpectedPost : PostsExpected → Side → Post → Type 0
IsExpectedPost (PostsExpected.ByRuns estate group machine runs) side post = ExpectedPost estate group machine side runs post
IsExpectedPost (PostsExpected.BeforeRuns protected) side post = IsOpeningPost protected side post

-- where a post's machine is placed, if it is registered
abbrev pub place_in : Post → Option Placement
place_in Post.Placeholder = None
place_in (Post.Off placed) = Some placed.place
place_in (Post.On placed) = Some placed.place
place_in (Post.Ready placed) = Some placed.place

-- the code of an expected post: its own place is the wanted one
abbrev pub expected_post_code : Side → Post → ℕ
expected_post_code side post = post_code side (place_in post) post

-- the post that is wanted where another was found: the expected one of least code, and of these one at the place of that which was found, if one is there
pub record IsWantedPost (expected : PostsExpected) (side : Side) (found wanted : Post) : Type 0 where
  pub is_expected : IsExpectedPost expected side wanted
  pub least : (post : Post) → IsExpectedPost expected side post → expected_post_code side wanted ≤ expected_post_code side post
  pub nearest : (post : Post) → IsExpectedPost expected side post → expected_post_code side post ≡ expected_post_code side wanted → place_in post ≡ place_in found → place_in wanted ≡ place_in found

-- these are the codes of a post that was found at a side where it isn't expected, or that a refused call told
pub record IsForeignPost (expected : PostsExpected) (side : Side) (refused : Bool) (found : Post) (wanted_code found_code : ℕ) : Type 0 where
  pub unexpected : refused ≡ false → ¬ IsExpectedPost expected side found
  pub wanted : Post
  pub is_wanted : IsWantedPost expected side found wanted
  pub wanted_is : wanted_code ≡ expected_post_code side wanted
  pub found_is : found_code ≡ told_code refused (post_code side (place_in wanted) found)

-- Pairs ----------------------------------------------------------------------------------------------------

-- a half of a pair before any run, which was read after the other one: it has that one's line, and at least its writes
pub record FollowsHalf (other_half it : Half) : Type 0 where
  pub line : other_half.content.line ≡ it.content.line
  pub behind : other_half.content.writes ≤ it.content.writes

-- which halves of a pair are expected: those that runs allow it in a group; those before any run, where a side is protected; or of these the protected side's, where the other one was read before
pub data HalvesExpected : Type 0 where
  ByRuns : Estate → (group number : ℕ) → List Run → HalvesExpected
  BeforeRuns : (protected : Side) → HalvesExpected
  BeforeRunsBehind : (protected : Side) → (other_half : Half) → HalvesExpected

-- the half is one of them at a side
abbrev pub IsExpectedHalf : HalvesExpected → Side → Half → Type 0
IsExpectedHalf (HalvesExpected.ByRuns estate group number runs) side it = (pair : Pair) × FitsPair estate runs group number pair × (it ≡ half side pair)
IsExpectedHalf (HalvesExpected.BeforeRuns protected) side it = (pair : Pair) × IsOpeningPair protected pair × (it ≡ half side pair)
IsExpectedHalf (HalvesExpected.BeforeRunsBehind protected other_half) side it = ((pair : Pair) × IsOpeningPair protected pair × (it ≡ half side pair)) × FollowsHalf other_half it

-- the code of an expected half: its own content is the wanted one
abbrev pub expected_half_code : Side → Half → ℕ
expected_half_code side it = half_code side true it

-- the half that was found has the content of the wanted one, and no snapshot but its
pub record HasContentOf (wanted found : Half) : Type 0 where
  pub content : found.content ≡ wanted.content
  pub snapshot : IfSome found.snapshot (λ s. wanted.snapshot ≡ Some s)

-- the half that is wanted where another was found: the expected one of least code, and of these one with the content of that which was found, if one has it
pub record IsWantedHalf (expected : HalvesExpected) (side : Side) (found wanted : Half) : Type 0 where
  pub is_expected : IsExpectedHalf expected side wanted
  pub least : (it : Half) → IsExpectedHalf expected side it → expected_half_code side wanted ≤ expected_half_code side it
  pub nearest : (it : Half) → IsExpectedHalf expected side it → expected_half_code side it ≡ expected_half_code side wanted → HasContentOf it found → HasContentOf wanted found

-- these are the codes of a half that was found at a side where it isn't expected, or that a refused call told
pub record IsForeignHalf (expected : HalvesExpected) (side : Side) (refused : Bool) (found : Half) (wanted_code found_code : ℕ) : Type 0 where
  pub unexpected : refused ≡ false → ¬ IsExpectedHalf expected side found
  pub wanted : Half
  pub is_wanted : IsWantedHalf expected side found wanted
  pub as_wanted : Bool
  pub tells_content : as_wanted ≡ true ↔ HasContentOf wanted found
  pub wanted_is : wanted_code ≡ expected_half_code side wanted
  pub found_is : found_code ≡ told_code refused (half_code side as_wanted found)
