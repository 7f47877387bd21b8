-- Names: 1 to 64 letters, digits, dashes, underscores and dots, the first a letter or a digit.
use Rattle.std.specs.Prelude.{ℕ, Bool, ◌&&◌, ◌||◌, ◌==◌, nat_le, List, length, slice_index}
use Rattle.std.specs.List.{list_all}

-- a letter or a digit of ASCII
abbrev pub is_alphanumeric : ℕ → Bool
is_alphanumeric b = (nat_le 97 b && nat_le b 122) || (nat_le 65 b && nat_le b 90) || (nat_le 48 b && nat_le b 57)

-- a byte that may stand in a name: a letter, a digit, '-', '_' or '.'
abbrev pub is_name_byte : ℕ → Bool
is_name_byte b = is_alphanumeric b || (b == 45) || (b == 95) || (b == 46)

-- whether these bytes are a name
abbrev pub is_name : List ℕ → Bool
is_name bytes = nat_le 1 (length bytes) && nat_le (length bytes) 64 && is_alphanumeric (slice_index bytes 0) && list_all is_name_byte bytes
