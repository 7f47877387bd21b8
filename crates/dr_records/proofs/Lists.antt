-- Lists of entries of one length.
use Rattle.std.proofs.Common.{◌≡◌, ℕ, ◌+◌, ◌*◌, List, [], ◌∷◌, ◌++◌, length, refl, arith, length-append, append_assoc}
use Rattle.std.specs.List.{flat_map}
use Rattle.dr_records.specs.declared.records.StartPair.{StartPair}
use Rattle.dr_records.specs.declared.records.StartRow.{StartRow}
use Rattle.dr_records.specs.Spelling.{four_bytes, pair_text, list_text, start_text}

-- a number takes 4 bytes
pub four_each : (numbers : List ℕ) → length (flat_map four_bytes numbers) ≡ 4 * length numbers
four_each [] = refl
four_each (n ∷ numbers) = omega (arith, four_each numbers)

-- a pair takes 21 bytes
pub pair_each : (pairs : List StartPair) → length (flat_map pair_text pairs) ≡ 21 * length pairs
pair_each [] = refl
pair_each (p ∷ pairs) = omega (arith, pair_each pairs)

-- how long a Start is behind its kind
pub start_length : (row : StartRow) → length (start_text row) ≡ 22 + (1 + length row.id) + (2 + 4 * length row.groups) + (2 + 21 * length row.pairs)
start_length row = omega (arith, length-append row.id (list_text four_bytes row.groups ++ list_text pair_text row.pairs), length-append (flat_map four_bytes row.groups) (list_text pair_text row.pairs), four_each row.groups, pair_each row.pairs)

-- four texts that were put one after the other
pub four_parts : (old a b c d one two three new : List ℕ) → one ≡ old ++ a → two ≡ one ++ b → three ≡ two ++ c → new ≡ three ++ d → new ≡ old ++ (a ++ (b ++ (c ++ d)))
four_parts old a b c d one two three new e f g h = rw (h, g, f, e) (simp append_assoc)

-- six texts, joined from the left
pub six_parts : (old a b c d e f one two three four five new : List ℕ) → one ≡ old ++ a → two ≡ one ++ b → three ≡ two ++ c → four ≡ three ++ d → five ≡ four ++ e → new ≡ five ++ f → new ≡ old ++ (a ++ (b ++ c) ++ d ++ e ++ f)
six_parts old a b c d e f one two three four five new p q r s t u = rw (u, t, s, r, q, p) (simp append_assoc)
