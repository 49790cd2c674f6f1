-- What a folder holds of the lines that were handled, and what a crash leaves of it.
use Rattle.std.specs.Prelude.{◌≡◌, ◌⊎◌, ℕ, ◌+◌, ◌-◌, ◌^◌, ◌<◌, ◌≤◌, nat_le, if◌then◌else◌, List, [], ◌∷◌, ◌++◌, length, map}
use Rattle.flume_host.specs.Folder.{Files, IsImage}
use Rattle.flume_host.specs.Told.{EachMoment, Told, clock}
use Rattle.event_core.specs.Journal.{Base, numbered}
use Rattle.channel_face.specs.declared.replies.Limits.{Limits}
use Rattle.channel_face.specs.declared.replies.OpenCause.{OpenCause}
use Rattle.channel_face.specs.declared.replies.OpenCause.TheVariants as causes
use Rattle.channel_writing.specs.Folders.{AreSame, IsAsBefore, Opens, OpensFrom, OpensOver, OpensTo, Refuses}
use Rattle.channel_writing.specs.Touches.{IsSpentLog}
use Rattle.netcat_source.specs.Judged.{event_of}
use Rattle.netcat_source.specs.declared.lines.LineVerdict.TheVariants.{Accepted, Refused}
use Rattle.line_session.specs.Handled.{Handled}
use Rattle.agent_commands.specs.Handled.{all_with}

-- the limits of a file channel of which nothing is said
abbrev pub default_limits : Limits
default_limits = record { capacity = 1000000; txn_capacity = 10000; max_file = 2146435071 }

-- a base, and after it the events of these lines, in order
abbrev pub behind : Base → List (List ℕ) → Base
behind base lines = record { items = base.items ++ numbered base.first (map event_of lines); first = base.first + length lines }

-- an image opens to a base and these lines after it
abbrev pub GivesLines : Base → List (List ℕ) → Files → Type 0
GivesLines base lines image = (txn : ℕ) × OpensTo image (behind base lines) txn

-- A line that was acknowledged, and the disk's clock when it was.
pub record Acknowledged : Type 0 where
  pub line : List ℕ
  pub moment : ℕ

abbrev pub lines_in : List Acknowledged → List (List ℕ)
lines_in acks = map (λ a. a.line) acks

-- the lines that were acknowledged by this moment
abbrev pub by : ℕ → List Acknowledged → List (List ℕ)
by m [] = []
by m (a ∷ acks) = if nat_le a.moment m then a.line ∷ by m acks else by m acks

-- An image opens to a base and, after it, a first part of the lines: those that were acknowledged, and at most one more.
pub record GivesFront (base : Base) (lines acknowledged : List (List ℕ)) (image : Files) : Type 0 where
  pub more : List (List ℕ)
  pub rest : List (List ℕ)
  pub first : lines ≡ (acknowledged ++ more) ++ rest
  pub one : length more ≤ 1
  pub gives : GivesLines base (acknowledged ++ more) image

-- After so many further lines the channel has its capacity, or the number of the next event or transaction is the last.
abbrev pub IsAtEnd : Base → ℕ → ℕ → Type 0
IsAtEnd base txn n = (default_limits.capacity ≤ length base.items + n) ⊎ (2 ^ 64 - 1 ≤ base.first + n) ⊎ (2 ^ 64 - 1 ≤ txn + n)

-- From what a disk showed to what it shows: its folder was opened, and lines were handled, of which some may be in doubt.
pub record Holds (done : List Handled) (doubt : List (List ℕ)) (t u : Told) : Type 0 where
  -- what the folder held, and the number of the next transaction
  pub base : Base
  pub txn : ℕ
  pub opens : Opens t.reads default_limits.capacity base txn
  -- the first lines were accepted, and the others refused
  pub acks : List Acknowledged
  pub refused : List (List ℕ)
  pub split : done ≡ all_with Accepted (lines_in acks) ++ all_with Refused refused
  -- whatever a crash leaves at a moment since the folder was settled has each line that was acknowledged by then
  pub since : EachMoment (clock t + 1) (λ m image. GivesFront base (lines_in acks ++ doubt) (by m acks) image) u
  -- whatever it leaves now has each line that was accepted
  pub now : (image : Files) → IsImage u.now image → GivesFront base (lines_in acks ++ doubt) (lines_in acks) image
  -- lines are accepted until the channel is at its end or no log file is left, and from then on refused
  pub room : (n : ℕ) → n < length acks → IsAtEnd base txn n → ⊥
  pub ends : 0 < length refused → IsAtEnd base txn (length acks) ⊎ IsSpentLog u default_limits.max_file

-- The folder was not opened: it reads as before, and a crash leaves it as it could before or as it reads, each time but for a log file that counts as empty.
pub record IsUnopened (t u : Told) : Type 0 where
  pub reads : IsAsBefore t.reads u.reads
  pub images : OpensOver t u

-- the folder itself is the cause that it was not opened
abbrev pub IsOfFolder : OpenCause → Type 0
IsOfFolder causes.DiskFault = ⊥
IsOfFolder (causes.BadCheck file at) = Unit {0}
IsOfFolder (causes.BadLog file at) = Unit {0}
IsOfFolder (causes.OverCapacity count) = Unit {0}
IsOfFolder (causes.Spent counter) = Unit {0}
IsOfFolder causes.NoMemory = ⊥

-- The folder was refused for what it holds: it reads as before, and since it was settled a crash leaves it so.
pub record IsRefusedFolder (t u : Told) : Type 0 where
  pub cause : OpenCause
  pub folder : IsOfFolder cause
  pub why : Refuses t.reads default_limits.capacity cause
  pub reads : AreSame t.reads u.reads
  pub images : OpensFrom t u
