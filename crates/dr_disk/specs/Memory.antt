-- Disks in memory: what they hold, what a restart may find, and what each call does.
use Rattle.std.specs.Prelude.{◌≡◌, ◌⊎◌, ℕ, ◌-◌, ◌==◌, Bool, false, if◌then◌else◌, List, length, take, replicate, Option, None, Some, Result, Ok, Err}
use Rattle.std.specs.Option.{option_map}
use Rattle.dr_base.specs.Causes.{one_more, count_after}
use Rattle.dr_base.specs.Memory.{failed}
use Rattle.dr_base.specs.declared.failure.Failed.{Failed}
use Rattle.dr_disk.specs.Disk.{written}

-- a disk in memory
pub record MemoryDisk : Type 0 where
  -- what it reads
  pub bytes : List ℕ
  -- what it read at the last sync
  pub synced : List ℕ
  -- what it reads, with 0xA5 for each byte that was written since the last sync
  pub torn : List ℕ
  -- the greatest length
  pub limit : ℕ
  -- how many calls are left before each one fails; None: there is no end
  pub fuse : Option ℕ
  -- how many calls failed
  pub faults : ℕ
  -- how many reads were called
  pub read_calls : ℕ

-- what a restart may find: what the disk reads, what it read at the last sync, or what it reads with 0xA5 for the bytes that no sync has kept
abbrev pub IsImage : MemoryDisk → List ℕ → Type 0
IsImage disk file = (file ≡ disk.bytes) ⊎ (file ≡ disk.synced) ⊎ (file ≡ disk.torn)

-- these three by number
abbrev pub image_of : MemoryDisk → ℕ → List ℕ
image_of disk pick = if pick == 0 then disk.bytes else (if pick == 1 then disk.synced else disk.torn)

-- whether no call is left
abbrev pub is_spent : Option ℕ → Bool
is_spent None = false
is_spent (Some calls) = calls == 0

-- what a call answers: this, or that it failed since the fuse is spent
abbrev pub answer_of : {A : Type 0} → MemoryDisk → A → Result A Failed
answer_of disk value = if is_spent disk.fuse then Err failed else Ok value

-- the disk after a call that changes no bytes: one call less is left, and a fault is counted exactly where none was left
abbrev pub after_call : MemoryDisk → MemoryDisk
after_call disk = record disk { fuse = option_map (λ calls. calls - 1) disk.fuse; faults = count_after (is_spent disk.fuse) disk.faults }

-- the disk after a read, which is counted also where it fails
abbrev pub after_read : MemoryDisk → MemoryDisk
after_read disk = record (after_call disk) { read_calls = one_more disk.read_calls }

-- the disk after a write of these bytes at a place
abbrev pub after_write : ℕ → List ℕ → MemoryDisk → MemoryDisk
after_write at bytes disk = if is_spent disk.fuse then after_call disk else record (after_call disk) { bytes = written at bytes disk.bytes; torn = written at (replicate (length bytes) 0xA5) disk.torn }

-- the disk after a cut to so many bytes
abbrev pub after_cut : ℕ → MemoryDisk → MemoryDisk
after_cut len disk = if is_spent disk.fuse then after_call disk else record (after_call disk) { bytes = take len disk.bytes; torn = take len disk.torn }

-- the disk after a sync
abbrev pub after_sync : MemoryDisk → MemoryDisk
after_sync disk = if is_spent disk.fuse then after_call disk else record (after_call disk) { synced = disk.bytes; torn = disk.bytes }
