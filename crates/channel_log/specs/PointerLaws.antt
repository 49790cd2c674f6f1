-- Laws of pointers into log files.
use Rattle.std.specs.Prelude.{◌≡◌, ◌+◌, ℕ, List, [], ◌∷◌, ◌++◌, length, drop, Option, IsSomeAnd}
use Rattle.flume_host.specs.declared.names.FileName.TheVariants.{Log}
use Rattle.flume_host.specs.Folder.{Files, IsImage}
use Rattle.flume_host.specs.Told.{Told}
use Rattle.event_core.specs.Content.{Content, size}
use Rattle.record_form.specs.declared.record.Pointer.{Pointer}
use Rattle.record_form.specs.declared.record.Rec.{Rec}
use Rattle.record_form.specs.declared.record.Rec.TheVariants.{Put}
use Rattle.record_form.specs.Grammar.{Complete, outcome_of}
use Rattle.record_form.specs.Record.{HasFields, IsWithinLimits}
use Rattle.channel_log.specs.Writer.{LacksOrHas}
use Rattle.record_form.specs.Pointers.{PutAt}
use Rattle.channel_log.specs.Pointers.{StandsAt, pending_at, settled_part}
use Rattle.channel_log.specs.Window.{IsPieceOf, Kept}

-- What stands at a pointer is read there, with the pointer's length and 13 bytes before the event.
abbrev pub PutIsRead : Type 0
PutIsRead = (bytes : List ℕ) (p : Pointer) (event : Content) → PutAt bytes p event → (txn : ℕ) × (outcome_of (drop p.at bytes) ≡ Complete (Put txn event) (p.length + 13))

-- One event stands at a pointer.
abbrev pub OneEventStands : Type 0
OneEventStands = (bytes : List ℕ) (p : Pointer) (event other : Content) → PutAt bytes p event → PutAt bytes p other → event ≡ other

-- What stands in a file's settled part stands there in whatever a crash leaves while a frame is added, and with the frame.
abbrev pub PutStays : Type 0
PutStays =
    (birth number : ℕ) (frames : List (List Rec)) (frame : List Rec) (p : Pointer) (event : Content) → PutAt (settled_part birth number frames) p event
    → ((file : Option (List ℕ)) → LacksOrHas birth number frames frame file → IsSomeAnd file (λ bytes. PutAt bytes p event))
    × PutAt (settled_part birth number (frames ++ frame ∷ [])) p event

-- A PUT among the records of a pending frame stands, once the frame is there, where it would stand then.
abbrev pub PendingStands : Type 0
PendingStands =
    (birth number : ℕ) (frames : List (List Rec)) (before behind : List Rec) (txn : ℕ) (event : Content) → HasFields (Put txn event) → IsWithinLimits (Put txn event)
    → PutAt (settled_part birth number (frames ++ (before ++ Put txn event ∷ behind) ∷ [])) (record { file = number; at = pending_at (length (settled_part birth number frames)) before; length = size event }) event

-- What stands at a pointer stands there in every image between calls and while a frame is added to the last file.
abbrev pub StandsInEachImage : Type 0
StandsInEachImage =
    (t : Told) (birth number : ℕ) (frames : List (List Rec)) (frame : List Rec) (p : Pointer) (event : Content) (image : Files) → StandsAt t birth number frames p event → IsImage t.now image
    → LacksOrHas birth number frames frame (image (Log number))
    → IsSomeAnd (image (Log p.file)) (λ bytes. PutAt bytes p event)

-- What is kept of parts of files is kept of longer ones.
abbrev pub PieceGrows : Type 0
PieceGrows = (k : Kept) (part longer : ℕ → List ℕ) → ((file : ℕ) → (more : List ℕ) × (longer file ≡ part file ++ more)) → IsPieceOf k part → IsPieceOf k longer
