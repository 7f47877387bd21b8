-- A name is a path: it has no slash, so it is its own one part.
use Rattle.std.proofs.Common.{◌≡◌, ℕ, true, false, ◌&&◌, nat_le, List, [], ◌∷◌, length, slice_index, refl, arith}
use Rattle.std.specs.List.{list_all, slice_split, AllByRecursion}
use Rattle.std.proofs.lemmas.Bool.{and_parts}
use Rattle.std.proofs.lemmas.Bool.Decides.{nat_tests}
use Rattle.std.proofs.lemmas.List.Elements.{All-from_recursion}
use Rattle.std.proofs.lemmas.List.Splits.{slice_split_none}
use Rattle.dr_base.specs.Names.{is_name, is_name_byte, is_alphanumeric}
use Rattle.dr_base.specs.Paths.{is_path, is_slash}

not_slash : (b : ℕ) → is_name_byte b ≡ true → is_slash b ≡ false
not_slash b h = grind (arith, nat_tests)

no_slashes : (bytes : List ℕ) → list_all is_name_byte bytes ≡ true → AllByRecursion (λ b. is_slash b ≡ false) bytes
no_slashes [] h = tt
no_slashes (b ∷ bytes) h =
    let (here, more) = and_parts (is_name_byte b) (list_all is_name_byte bytes) h in
    (not_slash b here, no_slashes bytes more)

pub name_is_path : (bytes : List ℕ) → is_name bytes ≡ true → is_path bytes ≡ true
name_is_path bytes h =
    let (front, all) = and_parts (nat_le 1 (length bytes) && nat_le (length bytes) 64 && is_alphanumeric (slice_index bytes 0)) (list_all is_name_byte bytes) h in
    let (sizes, letter) = and_parts (nat_le 1 (length bytes) && nat_le (length bytes) 64) (is_alphanumeric (slice_index bytes 0)) front in
    let (some, most) = and_parts (nat_le 1 (length bytes)) (nat_le (length bytes) 64) sizes in
    let one : slice_split is_slash bytes ≡ bytes ∷ [] = slice_split_none is_slash bytes (All-from_recursion (λ b. is_slash b ≡ false) bytes (no_slashes bytes all)) in
    rw (one, most, some, letter, all) refl
