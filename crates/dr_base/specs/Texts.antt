-- Texts of prompts: 1 to 128 printable bytes of ASCII.
use Rattle.std.specs.Prelude.{ℕ, Bool, ◌&&◌, nat_le, List, length}
use Rattle.std.specs.List.{list_all}

-- a byte from ' ' to '~'
abbrev pub is_printable : ℕ → Bool
is_printable b = nat_le 32 b && nat_le b 126

-- whether these bytes are the text of a prompt
abbrev pub is_text : List ℕ → Bool
is_text bytes = nat_le 1 (length bytes) && nat_le (length bytes) 128 && list_all is_printable bytes
