-- What a call does to the state that a channel's places and its log stand for.
use Rattle.std.specs.Prelude.{◌≡◌, length, Option, Some, Result, Ok, Err, Bool, false}
use Rattle.flume_host.specs.Told.{Told}
use Rattle.event_core.specs.Content.{Content}
use Rattle.channel_log.specs.declared.pointers.ReadRefused.{ReadRefused}
use Rattle.channel_log.specs.declared.pointers.ReadRefused.TheVariants.{Damaged, NoMemory, ReadFault}
use Rattle.channel_face.specs.Machine.{Admits, Call, Gives, State, after, is_some_of}
use Rattle.channel_face.specs.declared.replies.TakeRefused.{TakeRefused}
use Rattle.channel_face.specs.declared.replies.TakeRefused.TheVariants as takes
use Rattle.channel_writing.specs.Waiting.{waiting_after}
use Rattle.file_channel.specs.Placed.{IsStateOf, Logged}

-- In a state the machine may give this call this reply, and the channel stands for the state after it, with as many bytes that wait.
pub record Steps (told told' : Option Told) (old new : Logged) (call : Call) (s : State) : Type 0 where
  pub admitted : Admits (is_some_of told) s call
  pub stands : IsStateOf told' new (after s call)
  pub waits : length new.log.bytes ≡ waiting_after s call (length old.log.bytes)

-- and so in each state that the channel stood for
abbrev pub StepsOn : Option Told → Option Told → Logged → Logged → Call → Type 0
StepsOn told told' old new call = (s : State) → IsStateOf told old s → Steps told told' old new call s

-- P of each state that a channel's places and its log stand for
abbrev pub ShowsOf : Option Told → Logged → (State → Type 0) → Type 0
ShowsOf told c P = (s : State) → IsStateOf told c s → P s

-- A reading at the pointer of this event gives it; over a disk that doesn't show its contents it gives one of its length, or finds damage.
abbrev pub ReadsAs : Bool → Content → Result Content ReadRefused → Type 0
ReadsAs tells event (Ok given) = Gives tells (Some event) (Some given)
ReadsAs tells event (Err ReadFault) = Unit {0}
ReadsAs tells event (Err (Damaged kept found)) = tells ≡ false
ReadsAs tells event (Err NoMemory) = Unit {0}

-- why a take gives no event where its record was not read
abbrev pub as_take : ReadRefused → TakeRefused
as_take ReadFault = takes.ReadFault
as_take (Damaged kept found) = takes.Damaged kept found
as_take NoMemory = takes.NoMemory
