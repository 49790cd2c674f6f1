-- What a call does to the disk.
use Rattle.std.specs.Prelude.{◌≡◌, ◌⊎◌, [], ◌<◌, ◌≤◌, ◌+◌, ◌==◌, ℕ, List, length, Ok, Err, Option, Some, None, Bool, true, false, IsSomeAnd}
use Rattle.flume_host.specs.Folder.{Files, IsImage, same_name}
use Rattle.flume_host.specs.Told.{LeavesOnly, Told, WhereTold}
use Rattle.flume_host.specs.declared.names.FileName.{FileName}
use Rattle.flume_host.specs.declared.names.FileName.TheVariants.{Log}
use Rattle.channel_face.specs.Machine.{State, Call, Put, Take, Flush}
use Rattle.channel_face.specs.declared.replies.PutRefused.TheVariants as PutNo
use Rattle.channel_face.specs.declared.replies.TakeRefused.TheVariants as TakeNo
use Rattle.channel_face.specs.declared.replies.FlushRefused.TheVariants as FlushNo
use Rattle.channel_log.specs.Writer.{Writer}
use Rattle.channel_writing.specs.Mirrors.{busy}
use Rattle.channel_writing.specs.Written.{MayRecover, RecoversSettled, kept}

-- the call came to a flush; every other leaves the disk alone
abbrev pub flushes : Call → Bool
flushes (Put token event (Ok done)) = done.spilled
flushes (Put token event (Err PutNo.DiskFault)) = true
flushes (Take token (Ok taken)) = taken.spilled
flushes (Take token (Err TakeNo.DiskFault)) = true
flushes (Flush (Ok done)) = true
flushes (Flush (Err FlushNo.DiskFault)) = true
flushes call = false

-- This log file alone may read otherwise now, or be left otherwise by a crash, and at most so many syncs were made.
pub record ChangesAlone (file most : ℕ) (t u : Told) : Type 0 where
  pub others : (name : FileName) → same_name name (Log file) ≡ false → u.reads name ≡ t.reads name
  pub left : (name : FileName) → same_name name (Log file) ≡ false → u.now name ≡ t.now name
  pub syncs : u.syncs ≤ t.syncs + most

-- A log file was there, and none above it. It alone may read otherwise now, and at most two syncs were made; or the next one alone, which was begun, and at most
-- three were made.
pub record WritesLast (t u : Told) : Type 0 where
  pub file : ℕ
  pub was : List ℕ
  pub there : t.reads (Log file) ≡ Some was
  pub last : (n : ℕ) → file < n → t.reads (Log n) ≡ None
  pub writes : ChangesAlone file 2 t u ⊎ ChangesAlone (file + 1) 3 t u

-- A frame of so many bytes of records does not go into the log file of this number any more: with it the file, which has a frame, would be
-- longer than this, and another file may follow.
abbrev pub IsFullFor : ℕ → ℕ → ℕ → List ℕ → Type 0
IsFullFor max_file waiting file was = (1 ≤ waiting) × (17 < length was) × (max_file < length was + waiting + 6) × (file < 4_294_967_295)

-- Log files are filled: the last one alone may read otherwise now, unless it is full for so many waiting bytes; then the next one alone.
pub record FillsFiles (max_file waiting : ℕ) (t u : Told) : Type 0 where
  pub file : ℕ
  pub was : List ℕ
  pub there : t.reads (Log file) ≡ Some was
  pub last : (n : ℕ) → file < n → t.reads (Log n) ≡ None
  pub here : (IsFullFor max_file waiting file was → ⊥) → ChangesAlone file 2 t u
  pub next : IsFullFor max_file waiting file was → ChangesAlone (file + 1) 3 t u

-- A channel that was not broken flushed: a crash at any moment leaves what was settled, or that with what was staged.
pub record Flushed (s : State) (t u : Told) : Type 0 where
  pub whole : s.broken ≡ false
  pub images : LeavesOnly t u (MayRecover s)
  pub writes : WritesLast t u

-- what a put or take needs of a frame: its record, and the end of each transaction that has records, its own among them
abbrev pub room_of : State → ℕ → ℕ → ℕ
room_of s size held = size + kept (busy s.opened) (held == 0)

-- a frame in which so many bytes wait has no room of this size left, with its own end
abbrev pub HasNoRoom : ℕ → ℕ → Type 0
HasNoRoom waiting size = 2_097_152 < waiting + size + 6

-- how long a log file is before its next frame: one that is begun has its header and a closed commit byte
abbrev pub length_before : Option (List ℕ) → ℕ
length_before None = 17
length_before (Some bytes) = length bytes

-- A log file gained a frame that had no room of this size left.
pub record HadNoRoom (size : ℕ) (t u : Told) : Type 0 where
  pub file : ℕ
  pub now : List ℕ
  pub after : u.reads (Log file) ≡ Some now
  pub full : 2_097_152 + length_before (t.reads (Log file)) < length now + size

-- where a frame was written, the writer goes on after it, in its file or in the next one
abbrev pub WritesOn : Writer → Writer → Type 0
WritesOn w new =
    (new ≡ record w { gate = w.gate + length w.bytes + 6; started = true; bytes = []; count = 0 })
    ⊎ (new ≡ record w { file = w.file + 1; gate = 16 + length w.bytes + 6; started = true; bytes = []; count = 0 })

-- the last log file that there can be has reached the length at which a file is left
abbrev pub IsSpentLog : Told → ℕ → Type 0
IsSpentLog t max_file = IsSomeAnd (t.reads (Log 4_294_967_295)) (λ bytes. max_file ≤ length bytes)

-- Unless the channel is broken, whatever a crash now leaves opens to just what is settled.
abbrev pub Rests : Option Told → State → Type 0
Rests told s = s.broken ≡ false → WhereTold told (λ t. (image : Files) → IsImage t.now image → RecoversSettled s image)
