-- What a journal's file stands for.
use Rattle.std.specs.Prelude.{ℕ, zero, suc, ◌+◌, List, [], ◌∷◌, ◌++◌, length, take, drop, nat_eq, nat_lt, ◌==◌, if◌then◌else◌}
use Rattle.std.specs.List.{flat_map, starts_with}
use Rattle.std.specs.Int.{to_be_bytes, from_be_bytes, w32}

-- what a file stands for: the bodies of its records in order, or it is damaged from the gate at this place on
pub data Reading : Type 0 where
  Whole : List (List ℕ) → Reading
  DamagedAt : ℕ → Reading

-- the first 16 bytes: the text "DRDESK journal " and a byte that tells the form
unfoldable pub header : ℕ → List ℕ
header form = 68 ∷ 82 ∷ 68 ∷ 69 ∷ 83 ∷ 75 ∷ 32 ∷ 106 ∷ 111 ∷ 117 ∷ 114 ∷ 110 ∷ 97 ∷ 108 ∷ 32 ∷ form ∷ []

-- the byte of the one form that there is: the digit 1
abbrev pub form_1 : ℕ
form_1 = 49

-- the bytes of a record with this body: an open gate, the body's length in 4 bytes, the body
abbrev pub record_bytes : List ℕ → List ℕ
record_bytes body = 165 ∷ to_be_bytes w32 (length body) ++ body

-- the bytes of all these records, one behind another
abbrev pub all_record_bytes : List (List ℕ) → List ℕ
all_record_bytes bodies = flat_map record_bytes bodies

-- the length field with which these bytes begin
unfoldable pub body_size : List ℕ → ℕ
body_size bytes = from_be_bytes w32 (take 4 bytes)

-- one record more in front
abbrev pub with_first : List ℕ → Reading → Reading
with_first body (Whole bodies) = Whole (body ∷ bodies)
with_first body (DamagedAt place) = DamagedAt place

-- the records from a gate on, up to the first closed gate. The first byte stands at this place of the file, and the gate comes after so many bytes. Damaged is an open gate behind whose record no byte follows.
unfoldable pub records_from : ℕ → ℕ → List ℕ → Reading
records_from skip place [] = Whole []
records_from (suc skip) place (byte ∷ bytes) = records_from skip (place + 1) bytes
records_from zero place (gate ∷ bytes) =
    if gate == 165
    then (if nat_lt (4 + body_size bytes) (length bytes) then with_first (take (body_size bytes) (drop 4 bytes)) (records_from (4 + body_size bytes) (place + 1) bytes) else DamagedAt place)
    else Whole []

-- what a file of a form stands for: nothing under 18 bytes, else its records behind the header, or damaged where another header stands
unfoldable pub journal_in : ℕ → List ℕ → Reading
journal_in form file = if nat_lt (length file) 18 then Whole [] else (if starts_with nat_eq file (header form) then records_from 0 16 (drop 16 file) else DamagedAt 0)

-- what a file stands for
abbrev pub journal_of : List ℕ → Reading
journal_of file = journal_in form_1 file
