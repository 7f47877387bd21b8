-- The text of a command that ran once.
use Rattle.std.specs.Prelude.{ℕ, ◌≡◌, ◌<◌, ◌≤◌, List, [], ◌∷◌, ◌++◌, length, All, codes, decimal, Option, Some, None}
use Rattle.dr_base.specs.declared.side.Side.{Side}
use Rattle.dr_outside.specs.declared.machine.Kept.{Kept}
use Rattle.dr_outside.specs.Commands.{code_of}
use Rattle.dr_lab.specs.Fields.{field, NoneThere}
use Rattle.dr_lab.specs.PairText.{IsLarge, side_word}
use Rattle.dr_lab.specs.MachineText.{IsName}

-- a code
abbrev pub IsCode : ℕ → Type 0
IsCode code = code ≤ 255

-- the side of a machine's command, or that it is a plan's
abbrev pub whose_word : Option Side → List ℕ
whose_word None = codes "none"
whose_word (Some side) = side_word side

-- a command that ran once, in one line
unfoldable pub kept_text : Kept → List ℕ
kept_text kept = field (codes "token ") 32 (decimal kept.token) ++ (field (codes "code ") 32 (decimal kept.code) ++ (field (codes "side ") 32 (whose_word kept.side) ++ field (codes "name ") 10 kept.name))

-- which of them there are
abbrev pub IsKept : Kept → Type 0
IsKept kept = IsLarge kept.token × (IsCode kept.code × IsName kept.name)

-- the lines of commands that ran
abbrev pub kept_lines : List Kept → List ℕ
kept_lines [] = []
kept_lines (kept ∷ rest) = kept_text kept ++ kept_lines rest

-- bytes begin with the lines of these commands, and these bytes stand behind them
pub record BeginsWith (bytes : List ℕ) (commands : List Kept) (rest : List ℕ) : Type 0 where
  pub are : All IsKept commands
  pub whole : bytes ≡ kept_lines commands ++ rest

-- the code that is known already, or else the one that these commands keep for a token
abbrev pub code_with : Option ℕ → List Kept → ℕ → Option ℕ
code_with None commands token = code_of commands token
code_with (Some code) commands token = Some code

-- what it comes to that lines are read from the front of these bytes while `least` or more are left: the code that was known, or that those lines keep for a token, and the bytes left; or nothing, where no line stands in front
abbrev pub TakesLines : ℕ → ℕ → Option ℕ → List ℕ → Option (Option ℕ × List ℕ) → Type 0
TakesLines least token code bytes (Some p) = (commands : List Kept) × BeginsWith bytes commands p.1 × (length p.1 < least) × (p.0 ≡ code_with code commands token)
TakesLines least token code bytes None = (commands : List Kept) × (rest : List ℕ) × BeginsWith bytes commands rest × (least ≤ length rest) × NoneThere IsKept kept_text rest

-- all bytes are lines of commands, which keep this code for a token
abbrev pub KeepsCode : List ℕ → ℕ → Option ℕ → Type 0
KeepsCode bytes token code = (commands : List Kept) × BeginsWith bytes commands [] × (code ≡ code_of commands token)
