-- The commands of a start, which of them are run, and the codes that are kept for them.
use Rattle.std.specs.Prelude.{ℕ, ◌≡◌, ◌+◌, Bool, not, IsTrue, List, [], ◌∷◌, ◌++◌, length, filter, Option, Some, None}
use Rattle.std.specs.Bool.{MatchBool}
use Rattle.std.specs.List.{AllByRecursion}
use Rattle.dr_base.specs.declared.side.Side.{Side}
use Rattle.dr_outside.specs.declared.machine.Kept.{Kept}
use Rattle.dr_outside.specs.Commands.{code_of}
use Rattle.dr_outside.specs.Machines.{PortState}
use Rattle.dr_meaning.specs.Lawful.{token_of, tokens_from}
use Rattle.dr_meaning.specs.InOrder.{has_code}

-- a command with its token
pub record Command : Type 0 where
  pub token : ℕ
  pub name : List ℕ

-- the commands that are there, the first of which has this index
abbrev pub commands_from : (root index : ℕ) → List (Option (List ℕ)) → List Command
commands_from root index [] = []
commands_from root index (None ∷ names) = commands_from root (index + 1) names
commands_from root index (Some name ∷ names) = record { token = token_of root index; name = name } ∷ commands_from root (index + 1) names

-- the commands for whose tokens no code is kept
abbrev pub unkept : List Kept → List Command → List Command
unkept kept commands = filter (λ command. not (has_code kept command.token)) commands

-- what is kept of the first of these commands, one for each code, run at this side
abbrev pub kept_of : Side → List Command → List ℕ → List Kept
kept_of side [] codes = []
kept_of side (command ∷ commands) [] = []
kept_of side (command ∷ commands) (code ∷ codes) =
    record { token = command.token; code = code; name = command.name; side = Some side } ∷ kept_of side commands codes

-- of these commands the first that weren't kept were run, each once, in order
pub record RanFirst (side : Side) (commands : List Command) (old new : List Kept) : Type 0 where
  pub codes : List ℕ
  pub grew : new ≡ old ++ kept_of side (unkept old commands) codes

-- all of them were
pub record RanAll (side : Side) (commands : List Command) (old new : List Kept) : Type 0 where
  pub codes : List ℕ
  pub all : length codes ≡ length (unkept old commands)
  pub grew : new ≡ old ++ kept_of side (unkept old commands) codes

-- the codes that are kept for the commands that are there, in their places
abbrev pub codes_from : List Kept → (root index : ℕ) → List (Option (List ℕ)) → List (Option ℕ)
codes_from kept root index [] = []
codes_from kept root index (None ∷ names) = None ∷ codes_from kept root (index + 1) names
codes_from kept root index (Some name ∷ names) = code_of kept (token_of root index) ∷ codes_from kept root (index + 1) names

-- for each of the commands that are there a code is kept
abbrev pub AreKept : List Kept → (root index : ℕ) → List (Option (List ℕ)) → Type 0
AreKept kept root index names = AllByRecursion (λ token. IsTrue (has_code kept token)) (tokens_from root index names)

-- no post changed, and these commands were run that weren't kept: all of them, or where a call failed, the first
pub record CommandsRun (done : Bool) (side : Side) (commands : List Command) (old new : PortState) : Type 0 where
  pub post : new.post ≡ old.post
  pub ran : MatchBool done (RanAll side commands old.kept new.kept) (RanFirst side commands old.kept new.kept)

-- these are the codes of commands, in their places, and each is kept
pub record AreCodes (kept : List Kept) (root index : ℕ) (names : List (Option (List ℕ))) (codes : List (Option ℕ)) : Type 0 where
  pub are_kept : AreKept kept root index names
  pub told : codes ≡ codes_from kept root index names
