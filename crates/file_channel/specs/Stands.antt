-- What a channel on a disk stands for.
use Rattle.std.specs.Prelude.{◌+◌, ◌-◌, ℕ, List, [], ◌∷◌, drop, replicate, Option, None, Some, Result, Ok, Err, Bool, true, false}
use Rattle.flume_host.specs.Told.{Told, moment_of}
use Rattle.flume_host.specs.declared.names.FileName.TheVariants.{Log}
use Rattle.event_core.specs.Content.{Content, content}
use Rattle.event_core.specs.Journal.{Base}
use Rattle.record_form.specs.Grammar.{Outcome, Complete, outcome_of}
use Rattle.record_form.specs.declared.record.Pointer.{Pointer}
use Rattle.record_form.specs.declared.record.Rec.TheVariants.{Put as PutRecord}
use Rattle.event_ring.specs.Slots.{Left}
use Rattle.channel_face.specs.Counters.{Tally}
use Rattle.channel_face.specs.History.{Opening, Step}
use Rattle.channel_face.specs.Machine.{is_some_of}
use Rattle.channel_face.specs.declared.replies.FlushRefused.{FlushRefused}
use Rattle.channel_face.specs.declared.replies.Put.{Put}
use Rattle.channel_face.specs.declared.replies.PutRefused.{PutRefused}
use Rattle.channel_face.specs.declared.replies.TakeRefused.{TakeRefused}
use Rattle.channel_face.specs.declared.replies.Taken.{Taken}
use Rattle.channel_places.specs.Looks.{Places}
use Rattle.channel_writing.specs.Stands.{StandsBy}
use Rattle.file_channel.specs.Laid.{CheckState}
use Rattle.file_channel.specs.Placed.{IsStateOf, Logged, bytes_of}

-- What a channel has beside its disk: its places and its log, what is counted, how many bytes of records wait in its frame, and what it knows of its
-- checkpoints.
pub record FileState : Type 0 where
  pub logged : Logged
  pub tally : Tally
  pub waiting : ℕ
  pub checks : CheckState

-- The calls lead to a state for which the channel's places and its log stand.
abbrev pub StandsOver : Option Told → ℕ → FileState → Opening → List Step → Type 0
StandsOver told faults c start h = StandsBy (IsStateOf told c.logged) told faults c.tally c.waiting start h

-- There are an opening and calls for which a channel stands.
abbrev pub IsStanding : Option Told → ℕ → FileState → Type 0
IsStanding told faults c = (start : Opening) × (h : List Step) × StandsOver told faults c start h

-- an event of this size that has no header, and zeros for its body
abbrev pub blank : ℕ → Content
blank size = content [] (replicate (size - 8) 0)

-- the event of a PUT that was read; where none was, only its size is known
abbrev pub event_of : ℕ → Outcome → Content
event_of size (Complete (PutRecord txn event) end) = event
event_of size outcome = blank size

-- the event whose PUT stands at a pointer; a disk that does not show its contents shows no more of it than its size
abbrev pub event_at : Option Told → Pointer → Content
event_at None p = blank p.length
event_at (Some t) p = event_of p.length (outcome_of (drop p.at (bytes_of (t.reads (Log p.file)))))

-- the events that are left, with their numbers
abbrev pub items_at : Option Told → List Left → List (ℕ × Content)
items_at told [] = []
items_at told (l ∷ live) = (l.number, event_at told l.pointer) ∷ items_at told live

abbrev pub base_at : Option Told → Places → Base
base_at told p = record { items = items_at told p.live; first = p.numbers.first }

-- The opening of a channel that has made no call yet, over a disk that told and had counted this before,
-- and tells this now.
abbrev pub opened_as : Option Told → ℕ → Option Told → FileState → Opening
opened_as before faults now c = record {
  rules = c.logged.places.numbers.rules;
  base = base_at now c.logged.places;
  txn = c.logged.places.numbers.txn;
  faults = faults;
  from = moment_of before + 1;
  tells = is_some_of now;
}

-- whether a call settled what was staged

abbrev pub put_spills : Result Put PutRefused → Bool
put_spills (Ok done) = done.spilled
put_spills (Err e) = false

abbrev pub take_spills : Result Taken TakeRefused → Bool
take_spills (Ok taken) = taken.spilled
take_spills (Err e) = false

abbrev pub flush_settles : Result (Unit {0}) FlushRefused → Bool
flush_settles (Ok done) = true
flush_settles (Err e) = false
