-- The estate of bytes, and all that is wrong with a table, in order.
use Rattle.std.specs.Prelude.{ℕ, ◌≤◌, ◌⊎◌, List, ◌++◌, filter, not, Some, length, ◌≡◌, ◌<◌, IsUtf8, Result, Ok, Err}
use Rattle.toml.specs.Data.{Members}
use Rattle.toml.specs.Parse.{parse_document}
use Rattle.dr_base.specs.declared.estate_fault.EstateFault.{EstateFault}
use Rattle.dr_base.specs.declared.estate_fault.EstateFault.TheVariants.{NotToml, Limit}
use Rattle.dr_base.specs.declared.estate_fault.Limit.TheVariants.{Bytes}
use Rattle.dr_inventory.specs.declared.document.Document.{Document}
use Rattle.dr_inventory.specs.declared.estate.Estate.{Estate}
use Rattle.dr_inventory.specs.Part.{is_of_shape, first_or}
use Rattle.dr_inventory.specs.Documents.{document}
use Rattle.dr_inventory.specs.Rules.{twice_faults, unknown_faults, device_faults}
use Rattle.dr_inventory.specs.Limits.{limits}
use Rattle.dr_inventory.specs.Numbers.{estate_of}

-- what is wrong with the form of a table: each wrong key, then each bad name
abbrev pub form_faults : Members → List EstateFault
form_faults t = filter is_of_shape (document t).faults ++ filter (λ f. not (is_of_shape f)) (document t).faults

-- what is wrong with its rows beside that: what stands twice, what isn't declared, devices that are named twice, and counts
abbrev pub row_faults : Document → List EstateFault
row_faults doc = twice_faults doc ++ (unknown_faults doc ++ (device_faults doc ++ limits doc))

-- All that is wrong with a table, in order. After a fault of form the rows hold stand-ins, so of such a list only the first is ever told.
abbrev pub faults : Members → List EstateFault
faults t = form_faults t ++ row_faults (document t).value

-- the estate of a table, or the first of all that is wrong with it
abbrev pub reading : Members → Result Estate EstateFault
reading t = first_or (faults t) (estate_of (document t).value)

-- the bytes are the text of this table
pub record IsTable (bytes : List ℕ) (t : Members) : Type 0 where
  pub utf8 : IsUtf8 bytes
  pub parsed : parse_document bytes ≡ Some t

-- the bytes are few enough, and no table's text
pub record IsNoTable (bytes : List ℕ) : Type 0 where
  pub short : length bytes ≤ 4194304
  pub none : (t : Members) → ¬ IsTable bytes t

-- the bytes are few enough, and the text of a table that reads so
pub record ReadsAs (bytes : List ℕ) (result : Result Estate EstateFault) : Type 0 where
  pub short : length bytes ≤ 4194304
  pub table : Members
  pub is_table : IsTable bytes table
  pub value : reading table ≡ result

-- the bytes are the text of this estate, and nothing is wrong with them
abbrev pub IsEstateText : List ℕ → Estate → Type 0
IsEstateText bytes estate = ReadsAs bytes (Ok estate)

-- the bytes are too many, which is told as soon as one too many was read
pub record IsTooLong (bytes : List ℕ) (fault : EstateFault) : Type 0 where
  pub long : 4194304 < length bytes
  pub told : fault ≡ Limit Bytes 4194305

-- the bytes are no table's text
pub record IsNoTableFault (bytes : List ℕ) (fault : EstateFault) : Type 0 where
  pub no_table : IsNoTable bytes
  pub told : fault ≡ NotToml

-- the first of all that is wrong with bytes: too many, no table, or what is wrong with their table
abbrev pub IsTextFault : List ℕ → EstateFault → Type 0
IsTextFault bytes fault = IsTooLong bytes fault ⊎ (IsNoTableFault bytes fault ⊎ ReadsAs bytes (Err fault))
