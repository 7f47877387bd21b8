-- A disk over a file of the system: which lengths it takes, which folder holds the file, and what a failed sync leaves.
use Rattle.std.specs.Prelude.{ℕ, ◌==◌, Bool, if◌then◌else◌, nat_le, List, length, codes, Result, Ok, Err, IsTrue, IsErr}
use Rattle.std.specs.Option.{unwrap_or}
use Rattle.std.specs.Fs.{metadata_len}
use Rattle.std.specs.Path.{path_parent}
use Rattle.std.specs.declared.fs.attrs.Metadata.{Metadata}
use Rattle.dr_base.specs.Memory.{failed}
use Rattle.dr_base.specs.declared.failure.Failed.{Failed}
use Rattle.dr_disk.specs.declared.disk.TheConstants.{GREATEST_LIMIT}

-- the length that the system tells of a file, where it tells one and that isn't past the limit
abbrev pub length_told : {E : Type 0} → Result Metadata E → Result ℕ Failed
length_told (Ok metadata) = if nat_le (metadata_len metadata) GREATEST_LIMIT then Ok (metadata_len metadata) else Err failed
length_told (Err _) = Err failed

-- this folder's path, or `.` where it has no bytes
abbrev pub or_current : List ℕ → List ℕ
or_current folder = if length folder == 0 then codes "." else folder

-- the folder that holds the file at a path
abbrev pub folder_of : List ℕ → List ℕ
folder_of path = or_current (unwrap_or (path_parent path) (codes "."))

-- once a sync has failed, each call fails
abbrev pub FailsAfter : {T E : Type 0} → Bool → Result T E → Type 0
FailsAfter sync_failed result = IsTrue sync_failed → IsErr result
