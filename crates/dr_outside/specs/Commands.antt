-- Commands that run once: a port's and the runner's kept codes.
use Rattle.std.specs.Prelude.{ℕ, ◌≡◌, ◌==◌, if◌then◌else◌, List, [], ◌∷◌, ◌++◌, Option, Some, None}
use Rattle.dr_base.specs.declared.side.Side.{Side}
use Rattle.dr_outside.specs.declared.machine.Kept.{Kept}

-- the code that is kept for a token
abbrev pub code_of : List Kept → ℕ → Option ℕ
code_of [] token = None
code_of (kept ∷ rest) token = if kept.token == token then Some kept.code else code_of rest token

-- each token is kept once
abbrev pub HasTokensOnce : List Kept → Type 0
HasTokensOnce [] = Unit {0}
HasTokensOnce (kept ∷ rest) = (code_of rest kept.token ≡ None) × HasTokensOnce rest

-- one more code is kept, with what its call was given
abbrev pub KeepsOneMore : Option Side → ℕ → List ℕ → List Kept → List Kept → ℕ → Type 0
KeepsOneMore side token name old new code = new ≡ old ++ record { token = token; code = code; name = name; side = side } ∷ []

-- a command ran now, and no code was kept for its token
pub record RunsOnce (side : Option Side) (token : ℕ) (name : List ℕ) (old new : List Kept) (code : ℕ) : Type 0 where
  pub first : code_of old token ≡ None
  pub kept : KeepsOneMore side token name old new code
