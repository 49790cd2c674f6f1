-- What an opening finds in a folder, and what it makes of it.
use Rattle.std.specs.Prelude.{◌≡◌, ◌⊎◌, ◌<◌, ◌^◌, ℕ, List, [], length, Option, None, Some, Result, true}
use Rattle.flume_host.specs.Folder.{Files}
use Rattle.flume_host.specs.Told.{Leads, On, Remove, Told, WhereTold}
use Rattle.flume_host.specs.declared.names.Failed.{Failed}
use Rattle.flume_host.specs.declared.names.FileName.TheVariants.{Log}
use Rattle.event_core.specs.Content.{Content}
use Rattle.event_core.specs.Journal.{Base, IsBase}
use Rattle.record_form.specs.declared.record.Pointer.{Pointer}
use Rattle.channel_log.specs.Writer.{Writer}
use Rattle.channel_face.specs.History.{opening}
use Rattle.channel_face.specs.Machine.{State}
use Rattle.channel_face.specs.declared.replies.Kind.TheVariants.{File}
use Rattle.channel_face.specs.declared.replies.Limits.{Limits}
use Rattle.channel_face.specs.declared.replies.OpenCause.{OpenCause}
use Rattle.channel_face.specs.declared.replies.OpenCause.TheVariants as causes
use Rattle.channel_places.specs.Looks.{Known, LookLeft, StandsIn}
use Rattle.checkpoint_opening.specs.Laws.{AreBounded}
use Rattle.checkpoint_opening.specs.Opening.{HasSteps, IsOpened}
use Rattle.checkpoint_opening.specs.declared.opening.NewestCheck.{NewestCheck}
use Rattle.channel_writing.specs.Folders.{Opens, last_file}
use Rattle.channel_writing.specs.Written.{IsFresh, IsLogged}
use Rattle.ring_replay.specs.declared.folder.Replayed.{Replayed}
use Rattle.file_channel.specs.Placed.{ArePlaced, IsStateOf, Logged}
use Rattle.file_channel.specs.Stands.{base_at, event_at}

-- each log file ends below the greatest offset
abbrev pub AreShort : Files → Type 0
AreShort files = (n : ℕ) (bytes : List ℕ) → files (Log n) ≡ Some bytes → length bytes < 2 ^ 63

-- A folder, whose log files are not the last that there can be, was replayed to this from its newest checkpoint on.
pub record ReplaysTo (files : Files) (check : Option NewestCheck) (r : Replayed) : Type 0 where
  pub opened : IsOpened files (record { check = check; replayed = r })
  pub last : files (Log last_file) ≡ None
  pub short : AreShort files

-- no step was counted, or at most one for each record after the place from which the folder is replayed
abbrev pub CountsSteps : Files → ℕ → ℕ → Type 0
CountsSteps files before now = (now ≡ before) ⊎ HasSteps files before now

-- A log file could not be begun: the disk failed, or when out of memory, and then nothing was done.
abbrev pub FailsToBegin : OpenCause → Option Told → Option Told → Type 0
FailsToBegin cause told told' = (cause ≡ causes.DiskFault) ⊎ ((cause ≡ causes.NoMemory) × (told' ≡ told))

-- the log file of this number was removed, or some part of that was done, or nothing
abbrev pub MayRemove : ℕ → Told → Told → Type 0
MayRemove number t u = (u ≡ t) ⊎ ((result : Result (Unit {0}) Failed) × Leads (On (Log number) Remove) result t u)

-- each event that is known is the one that the disk shows at its pointer
abbrev pub AreSeen : Option Told → Known → Type 0
AreSeen told known = (p : Pointer) (event : Content) → StandsIn known p event → event_at told p ≡ event

-- A folder opened to this base and to the next transaction number of what was replayed, and a log file was begun after it. The ring has the base's
-- events, each known to stand at its pointer, as the disk shows, and the log has each state of just these.
pub record IsBegunAs (was told : Option Told) (capacity max_file : ℕ) (r : Replayed) (w : Writer) : Type 0 where
  pub base : Base
  pub known : Known
  pub rises : IsBase base
  pub left : LookLeft known [] r.ring.live base.items
  pub first : base.first ≡ r.next.number
  pub opens : WhereTold was (λ t. Opens t.reads capacity base r.next.txn)
  pub bounded : WhereTold was (λ t. AreBounded t.reads)
  pub placed : ArePlaced told w known known
  pub seen : AreSeen told known
  pub logged : (s : State) → IsFresh s base r.next.txn → s.rules.limits.max_file ≡ max_file → IsLogged told w 0 s

-- the state of a channel that has just these events and next numbers
abbrev pub state_of : Limits → Base → ℕ → State
state_of limits base txn = opening (record { rules = record { kind = File; limits = limits }; base = base; txn = txn; faults = 0; from = 0; tells = true })

-- A folder opened within these limits, and places and log stand for what it opened to, as the disk shows.
pub record OpensWith (was told : Option Told) (limits : Limits) (c : Logged) : Type 0 where
  pub base : Base
  pub txn : ℕ
  pub rises : IsBase base
  pub opens : WhereTold was (λ t. Opens t.reads limits.capacity base txn)
  pub state : IsStateOf told c (state_of limits base txn)
  pub seen : base_at told c.places ≡ base
