-- Sources and sinks in memory: what they hold, and what each call does. They fail at the calls whose numbers, from 1, are listed.
use Rattle.std.specs.Prelude.{ℕ, Bool, ◌==◌, ◌&&◌, ◌||◌, nat_lt, ◌-◌, if◌then◌else◌, min, List, ◌++◌, length, take, drop, Result, Ok, Err}
use Rattle.std.specs.List.{list_any}
use Rattle.dr_base.specs.Causes.{one_more}
use Rattle.dr_base.specs.declared.failure.Failed.{Failed}

-- a source in memory
pub record MemorySource : Type 0 where
  -- the bytes still to be read
  pub left : List ℕ
  -- how many calls were made
  pub calls : ℕ
  -- the numbers of the calls that fail
  pub fails : List ℕ
  -- how many calls failed
  pub faults : ℕ

-- a sink in memory
pub record MemorySink : Type 0 where
  -- the bytes taken so far
  pub taken : List ℕ
  -- how many bytes more there is room for
  pub room : ℕ
  -- how many calls were made
  pub calls : ℕ
  -- the numbers of the calls that fail
  pub fails : List ℕ
  -- how many calls failed
  pub faults : ℕ

-- the one value of `Failed`
abbrev pub failed : Failed
failed = record {}

-- whether the next call is listed
abbrev pub next_fails : ℕ → List ℕ → Bool
next_fails calls fails = list_any (λ number. number == one_more calls) fails

-- what a read into a buffer of this size answers
abbrev pub read_answer : MemorySource → ℕ → Result ℕ Failed
read_answer source size = if next_fails source.calls source.fails then Err failed else Ok (min (length source.left) size)

-- the source after a read into a buffer of this size
abbrev pub after_read : MemorySource → ℕ → MemorySource
after_read source size = if next_fails source.calls source.fails then record source { calls = one_more source.calls; faults = one_more source.faults } else record source { left = drop size source.left; calls = one_more source.calls }

-- the buffer after a read
abbrev pub filled : MemorySource → List ℕ → List ℕ
filled source buf = if next_fails source.calls source.fails then buf else take (length buf) source.left ++ drop (length source.left) buf

-- whether a write of so many bytes fails: its number is listed, or there are bytes and no room is left
abbrev pub write_fails : MemorySink → ℕ → Bool
write_fails sink size = next_fails sink.calls sink.fails || (nat_lt 0 size && (sink.room == 0))

-- what a write of so many bytes answers
abbrev pub write_answer : MemorySink → ℕ → Result ℕ Failed
write_answer sink size = if write_fails sink size then Err failed else Ok (min sink.room size)

-- the sink after a write
abbrev pub after_write : MemorySink → List ℕ → MemorySink
after_write sink bytes = if write_fails sink (length bytes) then record sink { calls = one_more sink.calls; faults = one_more sink.faults } else record sink { taken = sink.taken ++ take sink.room bytes; room = sink.room - length bytes; calls = one_more sink.calls }
