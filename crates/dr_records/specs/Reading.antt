-- Reading records from left to right. A fault is how many bytes are left at the first place where the bytes can't go on.
use Rattle.std.specs.Prelude.{◌≡◌, ℕ, zero, suc, ◌-◌, ◌==◌, ◌&&◌, nat_lt, nat_le, Bool, if◌then◌else◌, List, [], ◌∷◌, length, take, drop, Result, Ok, Err}
use Rattle.std.specs.Int.{Width, w16, w32, w64, byte_len, from_be_bytes}
use Rattle.dr_base.specs.Names.{is_name}
use Rattle.dr_base.specs.declared.command.Op.{Op}
use Rattle.dr_base.specs.declared.command.Op.TheVariants.{Testing, Cleanup, Migrate, Failover, Reprotect}
use Rattle.dr_base.specs.declared.stop.Stop.{Stop}
use Rattle.dr_base.specs.declared.stop.Stop.TheVariants as stops
use Rattle.dr_records.specs.declared.records.Record.{Record}
use Rattle.dr_records.specs.declared.records.Record.TheVariants as kinds
use Rattle.dr_records.specs.declared.records.StartPair.{StartPair}

infixl 10 ◌>>=◌
-- what comes next, where nothing failed
abbrev pub ◌>>=◌ : {A B : Type 0} → Result A ℕ → (A → Result B ℕ) → Result B ℕ
(Ok x) >>= f = f x
(Err left) >>= f = Err left

-- a function stopped where reading does, unless memory was wanting
abbrev pub StopsAs : {Y : Type 0} → Stop ℕ → Result Y ℕ → Type 0
StopsAs stops.Memory read = Unit {0}
StopsAs (stops.Fault left) read = read ≡ Err left

-- what a function returned, seen by view, is what reading gives, unless memory was wanting
abbrev pub Gives : {X Y : Type 0} → (X → Y) → Result X (Stop ℕ) → Result Y ℕ → Type 0
Gives view (Ok x) read = read ≡ Ok (view x)
Gives view (Err stop) read = StopsAs stop read

-- a number of fixed width, and the bytes behind it
abbrev pub number_at : Width → List ℕ → Result (ℕ × List ℕ) ℕ
number_at w bytes = if nat_lt (length bytes) (byte_len w) then Err 0 else Ok (from_be_bytes w (take (byte_len w) bytes), drop (byte_len w) bytes)

-- a byte from least to greatest
abbrev pub byte_at : ℕ → ℕ → List ℕ → Result (ℕ × List ℕ) ℕ
byte_at least greatest [] = Err 0
byte_at least greatest (b ∷ rest) = if nat_le least b && nat_le b greatest then Ok (b, rest) else Err (suc (length rest))

-- how many of the first bytes, of this many at most, make the longest name
abbrev pub longest_name : ℕ → List ℕ → ℕ
longest_name zero bytes = zero
longest_name (suc n) bytes = if is_name (take (suc n) bytes) then suc n else longest_name n bytes

-- a name of this length; where none stands there, its longest front that is a name still goes on
abbrev pub name_of : ℕ → List ℕ → Result (List ℕ × List ℕ) ℕ
name_of size bytes = if is_name (take size bytes) && nat_le size (length bytes) then Ok (take size bytes, drop size bytes) else Err (length bytes - longest_name (length (take size bytes)) (take size bytes))

-- a name: its length, and its bytes
unfoldable pub name_at : List ℕ → Result (List ℕ × List ℕ) ℕ
name_at bytes = do
  size ← byte_at 1 64 bytes
  name_of size.0 size.1

-- the operation of a byte
abbrev pub op_of : ℕ → Op
op_of b = if b == 1 then Testing else if b == 2 then Cleanup else if b == 3 then Migrate else if b == 4 then Failover else Reprotect

-- an operation
unfoldable pub op_at : List ℕ → Result (Op × List ℕ) ℕ
op_at bytes = do
  b ← byte_at 1 5 bytes
  Ok (op_of b.0, b.1)

-- a yes or no
unfoldable pub flag_at : List ℕ → Result (Bool × List ℕ) ℕ
flag_at bytes = do
  b ← byte_at 0 1 bytes
  Ok (b.0 == 1, b.1)

-- so many entries, each read by the same reader
unfoldable pub entries_at : {A : Type 0} → (List ℕ → Result (A × List ℕ) ℕ) → ℕ → List ℕ → Result (List A × List ℕ) ℕ
entries_at read zero bytes = Ok ([], bytes)
entries_at read (suc n) bytes = do
  first ← read bytes
  others ← entries_at read n first.1
  Ok (first.0 ∷ others.0, others.1)

-- a count in two bytes, and that many entries
unfoldable pub list_at : {A : Type 0} → (List ℕ → Result (A × List ℕ) ℕ) → List ℕ → Result (List A × List ℕ) ℕ
list_at read bytes = do
  count ← number_at w16 bytes
  entries_at read count.0 count.1

-- a pair of a Start
unfoldable pub pair_at : List ℕ → Result (StartPair × List ℕ) ℕ
pair_at bytes = do
  pair ← number_at w32 bytes
  seen ← flag_at pair.1
  old_writes ← number_at w64 seen.1
  new_writes ← number_at w64 old_writes.1
  Ok (record { pair = pair.0; seen = seen.0; old_writes = old_writes.0; new_writes = new_writes.0 }, new_writes.1)

-- the fields of a Start
unfoldable pub start_at : List ℕ → Result (Record × List ℕ) ℕ
start_at bytes = do
  run ← number_at w32 bytes
  op ← op_at run.1
  forced ← flag_at op.1
  plan ← number_at w32 forced.1
  over ← number_at w32 plan.1
  moment ← number_at w64 over.1
  id ← name_at moment.1
  groups ← list_at (number_at w32) id.1
  pairs ← list_at pair_at groups.1
  Ok (kinds.Start (record { run = run.0; op = op.0; forced = forced.0; plan = plan.0; over = over.0; moment = moment.0; id = id.0; groups = groups.0; pairs = pairs.0 }), pairs.1)

-- the fields of an Attempt
unfoldable pub attempt_at : List ℕ → Result (Record × List ℕ) ℕ
attempt_at bytes = do
  run ← number_at w32 bytes
  moment ← number_at w64 run.1
  Ok (kinds.Attempt run.0 moment.0, moment.1)

-- the fields of a Begin
unfoldable pub begin_at : List ℕ → Result (Record × List ℕ) ℕ
begin_at bytes = do
  run ← number_at w32 bytes
  stage ← number_at w32 run.1
  Ok (kinds.Begin run.0 stage.0, stage.1)

-- the fields of a Done
unfoldable pub done_at : List ℕ → Result (Record × List ℕ) ℕ
done_at bytes = do
  run ← number_at w32 bytes
  stage ← number_at w32 run.1
  Ok (kinds.Done run.0 stage.0, stage.1)

-- the fields of a Skip
unfoldable pub skip_at : List ℕ → Result (Record × List ℕ) ℕ
skip_at bytes = do
  run ← number_at w32 bytes
  stage ← number_at w32 run.1
  machine ← number_at w32 stage.1
  Ok (kinds.Skip run.0 stage.0 machine.0, machine.1)

-- the fields of an Aside
unfoldable pub aside_at : List ℕ → Result (Record × List ℕ) ℕ
aside_at bytes = do
  run ← number_at w32 bytes
  machine ← number_at w32 run.1
  by ← number_at w32 machine.1
  Ok (kinds.Aside run.0 machine.0 by.0, by.1)

-- the fields of an Answer
unfoldable pub answer_at : List ℕ → Result (Record × List ℕ) ℕ
answer_at bytes = do
  run ← number_at w32 bytes
  step ← number_at w32 run.1
  text ← name_at step.1
  Ok (kinds.Answer run.0 step.0 text.0, text.1)

-- the fields of a Code
unfoldable pub code_at : List ℕ → Result (Record × List ℕ) ℕ
code_at bytes = do
  run ← number_at w32 bytes
  token ← number_at w64 run.1
  machine ← number_at w32 token.1
  code ← byte_at 0 255 machine.1
  Ok (kinds.Code run.0 token.0 machine.0 code.0, code.1)

-- the fields of a Finish
unfoldable pub finish_at : List ℕ → Result (Record × List ℕ) ℕ
finish_at bytes = do
  run ← number_at w32 bytes
  moment ← number_at w64 run.1
  machines ← list_at (number_at w32) moment.1
  Ok (kinds.Finish run.0 moment.0 machines.0, machines.1)

-- the fields of a record of this kind, other than an Estate
abbrev pub fields_at : ℕ → List ℕ → Result (Record × List ℕ) ℕ
fields_at kind bytes = if kind == 2 then start_at bytes else if kind == 3 then attempt_at bytes else if kind == 4 then begin_at bytes else if kind == 5 then done_at bytes else if kind == 6 then skip_at bytes else if kind == 7 then aside_at bytes else if kind == 8 then answer_at bytes else if kind == 9 then code_at bytes else finish_at bytes

-- a record other than an Estate, and the bytes behind it
unfoldable pub other_at : List ℕ → Result (Record × List ℕ) ℕ
other_at bytes = do
  kind ← byte_at 2 10 bytes
  fields_at kind.0 kind.1

-- all of the bytes, as a record other than an Estate
unfoldable pub whole_other : List ℕ → Result Record ℕ
whole_other bytes = do
  item ← other_at bytes
  if length item.1 == 0 then Ok item.0 else Err (length item.1)

-- all of the bytes
abbrev pub record_of : List ℕ → Result Record ℕ
record_of [] = Err 0
record_of (kind ∷ rest) = if kind == 1 then Ok (kinds.Estate rest) else whole_other (kind ∷ rest)
