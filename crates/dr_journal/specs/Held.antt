-- How a file that is no damaged journal is made up.
use Rattle.std.specs.Prelude.{◌≡◌, ◌≢◌, ℕ, ◌+◌, ◌<◌, ◌^◌, List, [], ◌∷◌, ◌++◌, length, take}
use Rattle.dr_journal.specs.Reading.{header, all_record_bytes}

-- up to this place the file is the header and these records
pub record HasFront (form : ℕ) (bodies : List (List ℕ)) (place : ℕ) (file : List ℕ) : Type 0 where
  pub front : take place file ≡ header form ++ all_record_bytes bodies
  pub inside : place < length file

-- so it is, and a closed gate stands there
pub record ClosesAt (form : ℕ) (bodies : List (List ℕ)) (place : ℕ) (file : List ℕ) : Type 0 where
  pub gate : ℕ
  pub rest : List ℕ
  pub whole : file ≡ header form ++ (all_record_bytes bodies ++ gate ∷ rest)
  pub shut : gate ≢ 165
  pub is_at : place ≡ 16 + length (all_record_bytes bodies)

-- the file is the header, these records, a closed gate and nothing more
pub record IsTrimmed (form : ℕ) (bodies : List (List ℕ)) (file : List ℕ) : Type 0 where
  pub gate : ℕ
  pub whole : file ≡ header form ++ (all_record_bytes bodies ++ gate ∷ [])
  pub shut : gate ≢ 165
  pub short : length file < 2 ^ 32
