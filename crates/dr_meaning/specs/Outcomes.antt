-- What a stage makes of a frame or a post, and what its failed calls may leave besides.
use Rattle.std.specs.Prelude.{◌≡◌, true, false, ◌⊎◌, List, [], ◌∷◌, None}
use Rattle.dr_outside.specs.BySide.{put}
use Rattle.dr_outside.specs.Pairs.{Frame}
use Rattle.dr_meaning.specs.Types.{Link, Placed, Post, StageKind}
use Rattle.dr_meaning.specs.Testing.{with_snapshot}
use Rattle.dr_meaning.specs.Runs.{Run, number, new}

-- y is one of these
abbrev pub IsOneOf : {X : Type 0} → List X → X → Type 0
IsOneOf [] y = ⊥
IsOneOf (x ∷ []) y = y ≡ x
IsOneOf (x ∷ next ∷ xs) y = (y ≡ x) ⊎ IsOneOf (next ∷ xs) y

-- Frames ---------------------------------------------------------------------------------------------

-- the frame split, and writable at the new side
abbrev pub split_frame : Run → Frame → Frame
split_frame run x = record x { link = Link.Split; writable = put (new run) true x.writable }

-- the frame with its old side frozen
abbrev pub frozen_frame : Run → Frame → Frame
frozen_frame run x = record x { writable = put run.old false x.writable }

-- the frame live again, from the new side
abbrev pub reversed_frame : Run → Frame → Frame
reversed_frame run x = record x { link = Link.Live; source = new run }

-- what a stage makes of a frame
abbrev pub made_frame : Run → StageKind → Frame → Frame
made_frame run StageKind.TestStart x = with_snapshot (number run) x
made_frame run StageKind.TestStop x = record x { snapshot = None }
made_frame run StageKind.Prepare x = frozen_frame run x
made_frame run StageKind.Split x = split_frame run x
made_frame run StageKind.Reverse x = reversed_frame run x
made_frame run _ x = x

-- what a stage may leave of a frame: what it makes, or as it was
abbrev pub FrameOutcome : Run → StageKind → Frame → Frame → Type 0
FrameOutcome run kind x y = (y ≡ made_frame run kind x) ⊎ (y ≡ x)

-- Posts ----------------------------------------------------------------------------------------------

-- a post turned off, if the machine is registered there
abbrev pub stopped : Post → Post
stopped Post.Placeholder = Post.Placeholder
stopped (Post.Off placed) = Post.Off placed
stopped (Post.On placed) = Post.Off placed
stopped (Post.Ready placed) = Post.Off placed

-- what a stage makes of a post, where a start wants this placement
abbrev pub made_post : StageKind → Placed → Post → Post
made_post StageKind.Start wanted x = Post.Ready wanted
made_post StageKind.Stop wanted x = stopped x
made_post StageKind.Clear wanted x = Post.Placeholder
made_post StageKind.Sync wanted x = x
made_post StageKind.FinalSync wanted x = x
made_post StageKind.TestStart wanted x = x
made_post StageKind.TestStop wanted x = x
made_post StageKind.Prepare wanted x = x
made_post StageKind.Split wanted x = x
made_post StageKind.Reverse wanted x = x
made_post StageKind.Command wanted x = x
made_post StageKind.Prompt wanted x = x

-- what a failed start may leave of a post besides the machine ready as wanted: a placeholder where it was one, and, unless it was ready, the machine off or on as wanted
abbrev pub start_leaves : Placed → Post → List Post
start_leaves wanted Post.Placeholder = Post.Placeholder ∷ Post.Off wanted ∷ Post.On wanted ∷ []
start_leaves wanted (Post.Off placed) = Post.Off wanted ∷ Post.On wanted ∷ []
start_leaves wanted (Post.On placed) = Post.Off wanted ∷ Post.On wanted ∷ []
start_leaves wanted (Post.Ready placed) = []

-- what the failed calls of a stage may leave of a post
abbrev pub failure_leaves : StageKind → Placed → Post → List Post
failure_leaves StageKind.Start wanted x = start_leaves wanted x
failure_leaves StageKind.Stop wanted x = x ∷ []
failure_leaves StageKind.Clear wanted x = x ∷ stopped x ∷ []
failure_leaves StageKind.Sync wanted x = []
failure_leaves StageKind.FinalSync wanted x = []
failure_leaves StageKind.TestStart wanted x = []
failure_leaves StageKind.TestStop wanted x = []
failure_leaves StageKind.Prepare wanted x = []
failure_leaves StageKind.Split wanted x = []
failure_leaves StageKind.Reverse wanted x = []
failure_leaves StageKind.Command wanted x = []
failure_leaves StageKind.Prompt wanted x = []

-- what a stage may leave of a post: what it makes, or what its failed calls leave
abbrev pub PostOutcome : StageKind → Placed → Post → Post → Type 0
PostOutcome kind wanted x y = (y ≡ made_post kind wanted x) ⊎ IsOneOf (failure_leaves kind wanted x) y

-- a post that a start may find: none yet, or as it is wanted
abbrev pub IsAsWanted : Placed → Post → Type 0
IsAsWanted wanted Post.Placeholder = Unit {0}
IsAsWanted wanted (Post.Off placed) = placed ≡ wanted
IsAsWanted wanted (Post.On placed) = placed ≡ wanted
IsAsWanted wanted (Post.Ready placed) = placed ≡ wanted
