-- The codes of commands, by their names.
use Rattle.std.specs.Prelude.{ℕ, zero, suc, ◌++◌, if◌then◌else◌, List, bytes_eq, codes, decimal}

-- how `exit-N` is spelled
abbrev pub exit : ℕ → List ℕ
exit code = codes "exit-" ++ decimal code

-- the code below this bound whose `exit-N` a name is, and 0 where it is none
unfoldable pub code_below : ℕ → List ℕ → ℕ
code_below zero name = 0
code_below (suc code) name = if bytes_eq name (exit code) then code else code_below code name

-- a command's code: N for `exit-N` with N from 0 to 255, and 0 for every other name
abbrev pub exit_code : List ℕ → ℕ
exit_code name = code_below 256 name
