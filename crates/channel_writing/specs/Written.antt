-- What a channel writes of its state, and what a crash leaves of it.
use Rattle.std.specs.Prelude.{◌≡◌, ◌⊎◌, ◌<◌, ◌≤◌, ◌+◌, ◌*◌, ◌^◌, ℕ, List, [], length, Option, None, Bool, false, if◌then◌else◌}
use Rattle.flume_host.specs.Folder.{Allows, Files, Gone, IsImage, same_name}
use Rattle.flume_host.specs.Told.{Told, WhereTold}
use Rattle.flume_host.specs.declared.names.FileName.{FileName}
use Rattle.flume_host.specs.declared.names.FileName.TheVariants.{Log}
use Rattle.event_core.specs.Journal.{Base, after_journal}
use Rattle.record_form.specs.declared.record.Rec.{Rec}
use Rattle.channel_log.specs.Frames.{IsBirth}
use Rattle.channel_log.specs.Writer.{IsAtRest, IsPending, Writer}
use Rattle.channel_face.specs.Machine.{State, base_of}
use Rattle.channel_writing.specs.Folders.{OpensTo}
use Rattle.channel_writing.specs.Mirrors.{busy}
use Rattle.channel_writing.specs.Logs.{Logs}

-- the room that is kept for the end of each such transaction, and of one more
abbrev pub kept : ℕ → Bool → ℕ
kept busy first = 21 * (busy + (if first then 1 else 0))

-- a folder whose files are as a crash may leave them, but for this log file
abbrev pub LeavesOthers : Told → ℕ → Files → Type 0
LeavesOthers t file folder = (name : FileName) → same_name name (Log file) ≡ false → Allows (t.now name) (folder name)

-- The disk has the log of this state, but for the records that wait.
pub record OnDisk (t : Told) (w : Writer) (s : State) (records : List Rec) : Type 0 where
  pub birth : ℕ
  pub is_birth : IsBirth birth
  pub frames : List (List Rec)
  pub rest : IsAtRest t birth w.file w.gate frames
  pub small : w.file < 2 ^ 32
  pub none : (n : ℕ) → w.file < n → t.reads (Log n) ≡ None
  pub gone : (n : ℕ) → w.file < n → t.now (Log n) ≡ Gone
  pub logs : (folder : Files) → LeavesOthers t w.file folder → Logs folder birth w.file s frames records

-- Some records wait, and the disk, as far as it shows, has the rest.
pub record Waits (told : Option Told) (w : Writer) (s : State) : Type 0 where
  pub records : List Rec
  pub pending : IsPending w records
  pub disk : WhereTold told (λ t. OnDisk t w s records)

-- The log has this state, unless the channel is broken. So many open transactions have records in it, for each of which room is kept.
-- The writer leaves a file at the length that the limits name.
pub record IsLogged (told : Option Told) (w : Writer) (busy_ones : ℕ) (s : State) : Type 0 where
  pub busy_is : busy_ones ≡ busy s.opened
  pub few : length s.opened ≤ 1024
  pub room : length w.bytes + 21 * busy_ones + 6 ≤ 2_097_152
  pub limit : w.max_file ≡ s.rules.limits.max_file
  pub waits : s.broken ≡ false → Waits told w s

-- an image opens to what is settled, or to that with what is staged
abbrev pub MayRecover : State → Files → Type 0
MayRecover s image = (txn : ℕ) × (txn ≤ s.txn) × (OpensTo image (base_of s) txn ⊎ OpensTo image (after_journal (base_of s) s.staged) txn)

-- whatever a crash now leaves opens so
abbrev pub MayRest : Option Told → State → Type 0
MayRest told s = WhereTold told (λ t. (image : Files) → IsImage t.now image → MayRecover s image)

-- an image opens to just what is settled
abbrev pub RecoversSettled : State → Files → Type 0
RecoversSettled s image = (txn : ℕ) × (txn ≤ s.txn) × OpensTo image (base_of s) txn

-- A state of these events and next numbers, in which nothing is open or staged.
pub record IsFresh (s : State) (base : Base) (txn : ℕ) : Type 0 where
  pub base_is : base_of s ≡ base
  pub txn_is : s.txn ≡ txn
  pub opened : s.opened ≡ []
  pub staged : s.staged ≡ []
