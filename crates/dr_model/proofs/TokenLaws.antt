-- Kept codes by a command that runs once.
use Rattle.std.specs.Prelude.{ℕ, List, Option}
use Rattle.dr_outside.specs.Commands.{HasTokensOnce, RunsOnce}
use Rattle.dr_outside.proofs.TokenLaws.{kept_behind, once_behind}
use Rattle.dr_meaning.specs.Types.{Side, Kept}
use Rattle.dr_meaning.specs.Calls.{KeepsCodes}

pub tokens_once : (side : Option Side) (token : ℕ) (name : List ℕ) (old now : List Kept) (code : ℕ) → RunsOnce side token name old now code → HasTokensOnce old → HasTokensOnce now
tokens_once side token name old now code ran once = rw ran.kept (once_behind old (record { token = token; code = code; name = name; side = side }) ran.first once)

pub keeps_codes : (side : Option Side) (token : ℕ) (name : List ℕ) (old now : List Kept) (code : ℕ) → RunsOnce side token name old now code → KeepsCodes old now
keeps_codes side token name old now code ran = λ t c h. rw ran.kept (kept_behind old (record { token = token; code = code; name = name; side = side }) t c h)
