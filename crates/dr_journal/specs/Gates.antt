-- What the bytes at a gate's place say.
use Rattle.std.specs.Prelude.{ℕ, ◌+◌, List, [], ◌∷◌, Option, None, Some, Result, Ok, Err, nat_lt, ◌==◌, if◌then◌else◌}
use Rattle.dr_journal.specs.Reading.{body_size}
use Rattle.dr_journal.specs.declared.gates.Gate.{Gate}
use Rattle.dr_journal.specs.declared.gates.Gate.TheVariants.{Missing, Closed, Open, CutShort}
use Rattle.dr_journal.specs.declared.fault.JournalFault.{JournalFault}
use Rattle.dr_journal.specs.declared.fault.JournalFault.TheVariants.{Damaged}

-- what stands at a gate's place, where the file has so many bytes from there on and these are the first of them
abbrev pub gate_in : ℕ → List ℕ → Gate
gate_in left [] = Missing
gate_in left (gate ∷ field) = if gate == 165 then (if nat_lt (5 + body_size field) left then Open (body_size field) else CutShort) else Closed

-- what an opened journal has at a place, where the file has so many bytes from there on: the length of a body, none at its closing gate, which is the last byte, or else damage from there on
abbrev pub answer_at : ℕ → ℕ → Gate → Result (Option ℕ) JournalFault
answer_at place left (Open size) = Ok (Some size)
answer_at place left Closed = if nat_lt 1 left then Err (Damaged place) else Ok None
answer_at place left Missing = Ok None
answer_at place left CutShort = Err (Damaged place)
