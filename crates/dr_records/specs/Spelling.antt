-- The one spelling of each record, and which values records have.
use Rattle.std.specs.Prelude.{◌≡◌, ◌≢◌, ℕ, ◌+◌, ◌<◌, ◌≤◌, ◌^◌, Bool, true, false, IsTrue, List, [], ◌∷◌, ◌++◌, length, take, All, Result, Ok, Err}
use Rattle.std.specs.List.{flat_map}
use Rattle.std.specs.Int.{w16, w32, w64, to_be_bytes}
use Rattle.dr_base.specs.Names.{is_name}
use Rattle.dr_base.specs.declared.command.Op.{Op}
use Rattle.dr_base.specs.declared.command.Op.TheVariants.{Testing, Cleanup, Migrate, Failover, Reprotect}
use Rattle.dr_records.specs.declared.records.Record.{Record}
use Rattle.dr_records.specs.declared.records.Record.TheVariants as kinds
use Rattle.dr_records.specs.declared.record_fault.RecordFault.{RecordFault}
use Rattle.dr_records.specs.declared.record_fault.RecordFault.TheVariants as faults
use Rattle.dr_records.specs.declared.records.StartRow.{StartRow}
use Rattle.dr_records.specs.declared.records.StartPair.{StartPair}

-- a number in two bytes, the most significant first
abbrev pub two_bytes : ℕ → List ℕ
two_bytes n = to_be_bytes w16 n

-- a number in four bytes, the most significant first
abbrev pub four_bytes : ℕ → List ℕ
four_bytes n = to_be_bytes w32 n

-- a number in eight bytes, the most significant first
abbrev pub eight_bytes : ℕ → List ℕ
eight_bytes n = to_be_bytes w64 n

-- a name: its length in one byte, and its bytes
abbrev pub name_text : List ℕ → List ℕ
name_text name = length name ∷ name

-- a list: how many entries it has in two bytes, and each entry's text
abbrev pub list_text : {A : Type 0} → (A → List ℕ) → List A → List ℕ
list_text text entries = two_bytes (length entries) ++ flat_map text entries

-- the byte of an operation
abbrev pub op_byte : Op → ℕ
op_byte Testing = 1
op_byte Cleanup = 2
op_byte Migrate = 3
op_byte Failover = 4
op_byte Reprotect = 5

-- the byte of a yes or no
abbrev pub flag_byte : Bool → ℕ
flag_byte false = 0
flag_byte true = 1

-- a pair of a Start
abbrev pub pair_text : StartPair → List ℕ
pair_text p = four_bytes p.pair ++ (flag_byte p.seen ∷ []) ++ eight_bytes p.old_writes ++ eight_bytes p.new_writes

-- the numbers of a Start that stand before its id
abbrev pub start_numbers : StartRow → List ℕ
start_numbers row = four_bytes row.run ++ (op_byte row.op ∷ flag_byte row.forced ∷ []) ++ four_bytes row.plan ++ four_bytes row.over ++ eight_bytes row.moment

-- a Start behind its kind
abbrev pub start_text : StartRow → List ℕ
start_text row = start_numbers row ++ (name_text row.id ++ (list_text four_bytes row.groups ++ list_text pair_text row.pairs))

-- a record: the byte of its kind, and its fields in their order
abbrev pub spelling : Record → List ℕ
spelling (kinds.Estate bytes) = 1 ∷ bytes
spelling (kinds.Start row) = 2 ∷ start_text row
spelling (kinds.Attempt run moment) = 3 ∷ (four_bytes run ++ eight_bytes moment)
spelling (kinds.Begin run stage) = 4 ∷ (four_bytes run ++ four_bytes stage)
spelling (kinds.Done run stage) = 5 ∷ (four_bytes run ++ four_bytes stage)
spelling (kinds.Skip run stage machine) = 6 ∷ (four_bytes run ++ four_bytes stage ++ four_bytes machine)
spelling (kinds.Aside run machine by) = 7 ∷ (four_bytes run ++ four_bytes machine ++ four_bytes by)
spelling (kinds.Answer run step text) = 8 ∷ (four_bytes run ++ four_bytes step ++ name_text text)
spelling (kinds.Code run token machine code) = 9 ∷ (four_bytes run ++ eight_bytes token ++ four_bytes machine ++ (code ∷ []))
spelling (kinds.Finish run moment machines) = 10 ∷ (four_bytes run ++ eight_bytes moment ++ list_text four_bytes machines)

-- the lists of a record whose length stands in two bytes are short enough for that
abbrev pub HasShortLists : Record → Type 0
HasShortLists (kinds.Estate bytes) = Unit {0}
HasShortLists (kinds.Start row) = (length row.groups ≤ 65535) × (length row.pairs ≤ 65535)
HasShortLists (kinds.Attempt run moment) = Unit {0}
HasShortLists (kinds.Begin run stage) = Unit {0}
HasShortLists (kinds.Done run stage) = Unit {0}
HasShortLists (kinds.Skip run stage machine) = Unit {0}
HasShortLists (kinds.Aside run machine by) = Unit {0}
HasShortLists (kinds.Answer run step text) = Unit {0}
HasShortLists (kinds.Code run token machine code) = Unit {0}
HasShortLists (kinds.Finish run moment machines) = length machines ≤ 65535

-- which pairs a Start has: each number fits its bytes
abbrev pub IsPair : StartPair → Type 0
IsPair p = (p.pair < 2 ^ 32) × (p.old_writes < 2 ^ 64) × (p.new_writes < 2 ^ 64)

-- a number of four bytes
abbrev pub IsNumber : ℕ → Type 0
IsNumber n = n < 2 ^ 32

-- a list whose length fits two bytes, of such entries
abbrev pub IsList : {A : Type 0} → (A → Type 0) → List A → Type 0
IsList Is entries = (length entries < 2 ^ 16) × All Is entries

-- which rows a Start has: each number fits its bytes, the id is a name
pub record IsStart (row : StartRow) : Type 0 where
  pub run : row.run < 2 ^ 32
  pub plan : row.plan < 2 ^ 32
  pub over : row.over < 2 ^ 32
  pub moment : row.moment < 2 ^ 64
  pub id : IsTrue (is_name row.id)
  pub groups : IsList IsNumber row.groups
  pub pairs : IsList IsPair row.pairs

-- which values are records: each number fits its bytes, each name is one, and the lists are short enough
abbrev pub IsRecord : Record → Type 0
IsRecord (kinds.Estate bytes) = All (λ b. b < 2 ^ 8) bytes
IsRecord (kinds.Start row) = IsStart row
IsRecord (kinds.Attempt run moment) = (run < 2 ^ 32) × (moment < 2 ^ 64)
IsRecord (kinds.Begin run stage) = (run < 2 ^ 32) × (stage < 2 ^ 32)
IsRecord (kinds.Done run stage) = (run < 2 ^ 32) × (stage < 2 ^ 32)
IsRecord (kinds.Skip run stage machine) = (run < 2 ^ 32) × (stage < 2 ^ 32) × (machine < 2 ^ 32)
IsRecord (kinds.Aside run machine by) = (run < 2 ^ 32) × (machine < 2 ^ 32) × (by < 2 ^ 32)
IsRecord (kinds.Answer run step text) = (run < 2 ^ 32) × (step < 2 ^ 32) × IsTrue (is_name text)
IsRecord (kinds.Code run token machine code) = (run < 2 ^ 32) × (token < 2 ^ 64) × (machine < 2 ^ 32) × (code < 2 ^ 8)
IsRecord (kinds.Finish run moment machines) = (run < 2 ^ 32) × (moment < 2 ^ 64) × IsList IsNumber machines

-- some record's spelling begins with these bytes
abbrev pub BeginsRecord : List ℕ → Type 0
BeginsRecord front = (item : Record) × (rest : List ℕ) × IsRecord item × (spelling item ≡ front ++ rest)

-- n is the first offset at which the bytes can't be continued to a record, or their length where a record ended early
pub record IsFirstFault (bytes : List ℕ) (n : ℕ) : Type 0 where
  pub within : n ≤ length bytes
  pub begins : BeginsRecord (take n bytes)
  pub stops : n < length bytes → BeginsRecord (take (n + 1) bytes) → ⊥
  pub ended : (item : Record) → IsRecord item → bytes ≡ spelling item → ⊥

-- a record other than an Estate
abbrev pub IsOther : Record → Type 0
IsOther item = (bytes : List ℕ) → item ≢ kinds.Estate bytes

-- reading gave this record, unless memory was wanting
abbrev pub GivesRecord : Result Record RecordFault → Record → Type 0
GivesRecord (Ok found) item = found ≡ item
GivesRecord (Err faults.NoMemory) item = Unit {0}
GivesRecord (Err (faults.Malformed n)) item = ⊥

-- reading gave this fault, unless memory was wanting
abbrev pub GivesFault : Result Record RecordFault → ℕ → Type 0
GivesFault (Ok found) n = ⊥
GivesFault (Err faults.NoMemory) n = Unit {0}
GivesFault (Err (faults.Malformed m)) n = m ≡ n
