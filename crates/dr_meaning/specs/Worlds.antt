-- What the desk may change: the pairs of the array, the posts of machines, and the codes that machines and the runner keep.
use Rattle.std.specs.Prelude.{ℕ, ◌≡◌, List}
use Rattle.std.specs.Bool.{MatchBool}
use Rattle.dr_base.specs.Sides.{same_side}
use Rattle.dr_meaning.specs.Types.{Side, Sides, Pair, Post, Kept}
use Rattle.dr_meaning.specs.Opening.{IsInService}

-- the outside at a moment: how many pairs and machines it has, and by their numbers each pair, each machine's posts and the codes that it keeps; and the codes that the runner keeps
pub record World : Type 0 where
  pub pair_count : ℕ
  pub machine_count : ℕ
  pub pair : ℕ → Pair
  pub post : ℕ → Sides Post
  pub kept : ℕ → List Kept
  pub runner : List Kept

-- a post at a side before any run: in service where the side is protected, else a placeholder
abbrev pub IsOpeningPost : (protected side : Side) → Post → Type 0
IsOpeningPost protected side post = MatchBool (same_side side protected) (IsInService post) (post ≡ Post.Placeholder)
