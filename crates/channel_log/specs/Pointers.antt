-- What stands at a pointer of a log file, and what a reader finds there.
use Rattle.std.specs.Prelude.{◌≡◌, ◌≢◌, ◌⊎◌, ◌+◌, ◌-◌, ◌^◌, ◌<◌, ℕ, List, ◌++◌, length, Option, None, Some, Result, Ok, Err, nat_eq, if◌then◌else◌}
use Rattle.flume_host.specs.declared.names.FileName.TheVariants.{Log}
use Rattle.flume_host.specs.Folder.{There, stable}
use Rattle.flume_host.specs.Told.{Told}
use Rattle.event_core.specs.Content.{Content, size}
use Rattle.record_form.specs.declared.record.Pointer.{Pointer}
use Rattle.record_form.specs.Pointers.{PutAt}
use Rattle.record_form.specs.declared.record.Rec.{Rec}
use Rattle.record_form.specs.declared.record.Rec.TheVariants.{Put}
use Rattle.channel_log.specs.Frames.{header, opened, record_bytes}
use Rattle.channel_log.specs.Writer.{Writer}
use Rattle.channel_log.specs.declared.pointers.ReadRefused.{ReadRefused}
use Rattle.channel_log.specs.declared.pointers.ReadRefused.TheVariants.{Damaged, NoMemory, ReadFault}

-- the part of a file that is written before its closed commit byte: no later call changes it
abbrev pub settled_part : ℕ → ℕ → List (List Rec) → List ℕ
settled_part birth number frames = header birth number ++ opened frames

-- the place of the record after these of a waiting frame, whose commit byte has this offset
abbrev pub pending_at : ℕ → List Rec → ℕ
pending_at gate before = gate + 1 + length (record_bytes before)

-- In a log whose last file is written at present, a PUT of this event stands at the pointer: in that file before its closed commit byte, or in another
-- file, of which a crash leaves just the bytes.
abbrev pub StandsAt : Told → ℕ → ℕ → List (List Rec) → Pointer → Content → Type 0
StandsAt t birth number frames p event =
    ((p.file ≡ number) × PutAt (settled_part birth number frames) p event)
    ⊎ ((p.file ≢ number) × (bytes : List ℕ) × (t.now (Log p.file) ≡ There (stable bytes)) × PutAt bytes p event)

-- the length of the event whose PUT stands at the pointer's offset, if one does
abbrev pub LengthAt : List ℕ → Pointer → Option ℕ → Type 0
LengthAt bytes p None = (event : Content) → PutAt bytes (record p { length = size event }) event → ⊥
LengthAt bytes p (Some n) = (event : Content) × PutAt bytes (record p { length = n }) event

-- What a reader found at a pointer of these bytes: the event that stands there, or damage where none of its length does, with the length of one that does.
abbrev pub FoundAt : List ℕ → Pointer → Result Content ReadRefused → Type 0
FoundAt bytes p (Ok event) = PutAt bytes p event
FoundAt bytes p (Err ReadFault) = Unit {0}
FoundAt bytes p (Err (Damaged kept found)) = ((event : Content) → PutAt bytes p event → ⊥) × LengthAt bytes p found
FoundAt bytes p (Err NoMemory) = Unit {0}

-- each PUT that stands at the pointer's offset of some bytes stands at the front of these
abbrev pub IsSeen : List ℕ → Pointer → List ℕ → Type 0
IsSeen bytes p piece = (n : ℕ) (event : Content) → PutAt bytes (record p { length = n }) event → PutAt piece (record p { at = 0; length = n }) event

-- An event has the pointer's length. Damage names that, and another or none that was found.
abbrev pub IsOfLength : ℕ → Result Content ReadRefused → Type 0
IsOfLength length' (Ok event) = size event ≡ length'
IsOfLength length' (Err ReadFault) = Unit {0}
IsOfLength length' (Err (Damaged kept found)) = (kept ≡ length') × (found ≡ Some kept → ⊥)
IsOfLength length' (Err NoMemory) = Unit {0}

abbrev pub IsNoDamage : ReadRefused → Type 0
IsNoDamage ReadFault = Unit {0}
IsNoDamage (Damaged kept found) = ⊥
IsNoDamage NoMemory = Unit {0}

-- the length of the event of a record, if that is a PUT
abbrev pub IsLengthOf : Rec → Option ℕ → Type 0
IsLengthOf rec None = (txn : ℕ) (event : Content) → rec ≡ Put txn event → ⊥
IsLengthOf rec (Some n) = (txn : ℕ) × (event : Content) × (rec ≡ Put txn event) × (size event ≡ n)

-- the event of a record, if that is a PUT of an event of this length; else damage
abbrev pub IsEventOf : Rec → ℕ → Result Content ReadRefused → Type 0
IsEventOf rec length' (Ok event) = ((txn : ℕ) × (rec ≡ Put txn event)) × (size event ≡ length')
IsEventOf rec length' (Err ReadFault) = ⊥
IsEventOf rec length' (Err (Damaged kept found)) = (kept ≡ length') × (found ≡ Some kept → ⊥)
    × ((txn : ℕ) (event : Content) → rec ≡ Put txn event → size event ≡ length' → ⊥) × IsLengthOf rec found
IsEventOf rec length' (Err NoMemory) = ⊥

-- the pointer's place is in the frame that waits
abbrev pub IsWaiting : Writer → Pointer → Type 0
IsWaiting w p = (p.file ≡ w.file) × (w.gate < p.at)

-- the same place in the bytes of the records that wait
abbrev pub in_frame : Writer → Pointer → Pointer
in_frame w p = record { file = p.file; at = p.at - (w.gate + 1); length = p.length }

-- where the settled part of a file ends: in the writer's own file at its commit byte
abbrev pub end_of : Writer → ℕ → ℕ
end_of w file = if nat_eq file w.file then w.gate else 2 ^ 64 - 1
