-- Which stage starts a machine.
use Rattle.std.specs.Prelude.{◌≡◌, ℕ, ◌==◌, Bool, true, false, List, Option, Some, None}
use Rattle.dr_meaning.specs.declared.stage.StageKind.{StageKind}
use Rattle.dr_meaning.specs.declared.stage.Stage.{Stage}
use Rattle.dr_meaning.specs.Stages.{stage_at}
use Rattle.dr_meaning.specs.Meaning.{is_wave_of}

-- whether two are one machine
abbrev pub same_machine : ℕ → ℕ → Bool
same_machine a b = a == b

-- of these stages this one starts the machine; where none is told, none does
abbrev pub IsStartOf : List Stage → (machine : ℕ) → Option ℕ → Type 0
IsStartOf stages machine found =
    ((n : ℕ) → found ≡ Some n → is_wave_of StageKind.Start machine (stage_at stages n) ≡ true)
    × (found ≡ None → (n : ℕ) → is_wave_of StageKind.Start machine (stage_at stages n) ≡ false)
