-- What becomes of a line's event at a channel on which nothing is open or staged, and how a folder follows the lines.
use Rattle.std.specs.Prelude.{◌≡◌, ◌⊎◌, ℕ, ◌+◌, ◌-◌, ◌^◌, ◌≤◌, List, [], ◌∷◌, ◌++◌, length, Option, All, false}
use Rattle.flume_host.specs.Folder.{Files}
use Rattle.std.specs.List.{AllByRecursion}
use Rattle.flume_host.specs.Told.{LeavesOnly, Tells, Told, WhereTold, clock}
use Rattle.event_core.specs.Content.{Content}
use Rattle.event_core.specs.Journal.{Base, after_journal}
use Rattle.event_core.specs.declared.journal.Entry.{Entry}
use Rattle.event_core.specs.declared.journal.Entry.TheVariants.{Puts}
use Rattle.channel_face.specs.Machine.{State, base_of}
use Rattle.channel_face.specs.declared.replies.Kind.TheVariants.{File as OnFile}
use Rattle.channel_writing.specs.Folders.{OpensTo}
use Rattle.channel_writing.specs.Touches.{IsSpentLog}
use Rattle.netcat_source.specs.declared.lines.LineVerdict.{LineVerdict}
use Rattle.netcat_source.specs.declared.lines.LineVerdict.TheVariants.{Accepted, Refused, InDoubt, NoMemory}
use Rattle.line_session.specs.Handled.{Handled, verdicts_of}
use Rattle.agent_commands.specs.Handled.{GoesOn, doubted}
use Rattle.agent_commands.specs.Stored.{Holds, behind, default_limits, lines_in}

-- A file channel of default limits on which nothing is open or staged, and which is not broken.
pub record IsIdle (s : State) : Type 0 where
  pub kind : s.rules.kind ≡ OnFile
  pub limits : s.rules.limits ≡ default_limits
  pub opened : s.opened ≡ []
  pub staged : s.staged ≡ []
  pub whole : s.broken ≡ false

-- the transaction of one event
abbrev pub one_put : Content → List Entry
one_put event = Puts (event ∷ []) ∷ []

-- an image opens to a base
abbrev pub Keeps : Base → Files → Type 0
Keeps base image = (txn : ℕ) × OpensTo image base txn

-- an image opens to a base, or to it and one event after it
abbrev pub MayGain : Base → Content → Files → Type 0
MayGain base event image = (txn : ℕ) × (OpensTo image base txn ⊎ OpensTo image (after_journal base (one_put event)) txn)

-- what a crash may leave while an event is put: with the event only where it is accepted or in doubt
abbrev pub MayShow : LineVerdict → Base → Content → Files → Type 0
MayShow Accepted base event image = MayGain base event image
MayShow Refused base event image = Keeps base image
MayShow InDoubt base event image = MayGain base event image
MayShow NoMemory base event image = Keeps base image

-- a channel that can take no event more: it has its capacity, or the number of the next event or transaction is the last
abbrev pub IsFull : State → Type 0
IsFull s = (default_limits.capacity ≤ length s.items) ⊎ (2 ^ 64 - 1 ≤ s.first) ⊎ (2 ^ 64 - 1 ≤ s.txn)

-- no log file is left, as far as the disk shows
abbrev pub HasSpentLog : Option Told → Type 0
HasSpentLog told = WhereTold told (λ t. IsSpentLog t default_limits.max_file)

-- the state after an event was put in a transaction of its own
abbrev pub LeavesState : LineVerdict → Content → State → State → Type 0
LeavesState Accepted event s s' = IsIdle s' × (base_of s' ≡ after_journal (base_of s) (one_put event)) × (s'.txn ≡ s.txn + 1)
LeavesState Refused event s s' = IsIdle s' × (base_of s' ≡ base_of s) × (s.txn ≤ s'.txn)
LeavesState InDoubt event s s' = Unit {0}
LeavesState NoMemory event s s' = IsIdle s' × (base_of s' ≡ base_of s)

-- An event was put in a transaction of its own on an idle channel.
pub record PutsOne (event : Content) (verdict : LineVerdict) (told told' : Option Told) (s s' : State) : Type 0 where
  pub state : LeavesState verdict event s s'
  pub images : Tells told told' (λ t u. LeavesOnly t u (MayShow verdict (base_of s) event))
  -- it is accepted unless the channel is full or no log file is left
  pub fits : verdict ≡ Accepted → IsFull s → ⊥
  pub refused : verdict ≡ Refused → IsFull s ⊎ HasSpentLog told'
  -- where no log file is left, it is not accepted, and the disk stays as it is
  pub spent : WhereTold told (λ t. IsSpentLog t default_limits.max_file → (verdict ≡ Accepted → ⊥) × (told' ≡ told))

-- From what a disk showed to what it shows, by the state of the channel on it.
pub record Follows (first : List Handled) (doubt : List (List ℕ)) (s : State) (t u : Told) : Type 0 where
  pub holds : Holds first doubt t u
  pub base : base_of s ≡ behind holds.base (lines_in holds.acks)
  pub txn : holds.txn + length holds.acks ≤ s.txn
  pub exact : holds.refused ≡ [] → s.txn ≡ holds.txn + length holds.acks
  pub moments : AllByRecursion (λ a. a.moment ≤ clock u) holds.acks

-- A folder follows these lines, of which at most the last one stopped the session; unless it did, the channel is in an idle state, which
-- has what the folder has.
pub record Stands (before told : Option Told) (done : List Handled) (s : State) : Type 0 where
  pub first : List Handled
  pub last : List Handled
  pub split : done ≡ first ++ last
  pub going : All GoesOn (verdicts_of first)
  pub one : length last ≤ 1
  pub stops : All (λ h. GoesOn h.verdict → ⊥) last
  pub holds : Tells before told (Holds first (doubted last))
  pub goes_on : last ≡ [] → Tells before told (Follows first [] s)
