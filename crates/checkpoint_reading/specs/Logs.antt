-- What stands at a pointer that a checkpoint lists.
use Rattle.std.specs.Prelude.{◌≡◌, ◌≤◌, ◌+◌, ◌-◌, ℕ, List, Option, Some, None, length, take, drop}
use Rattle.flume_host.specs.declared.names.FileName.{FileName}
use Rattle.flume_host.specs.declared.names.FileName.TheVariants.{Log}
use Rattle.flume_host.specs.Folder.{Files}
use Rattle.flume_host.specs.Told.{Told, WhereTold}
use Rattle.event_core.specs.Content.{Content, size}
use Rattle.record_form.specs.declared.record.Pointer.{Pointer}
use Rattle.record_form.specs.declared.record.Rec.{Rec}
use Rattle.record_form.specs.declared.record.Rec.TheVariants.{Put}
use Rattle.record_form.specs.Pointers.{PutAt}
use Rattle.checkpoint.specs.Right.{PutIn, PutOf}
use Rattle.checkpoint_reading.specs.Reader.{HasLog}
use Rattle.checkpoint_reading.specs.declared.logs.Logs.{Logs}

-- the log file that was found, if one was, is there
abbrev pub IsFound : Option Told → Option ℕ → Type 0
IsFound told None = Unit {0}
IsFound told (Some file) = HasLog told file

-- what was read of the file
abbrev pub held : Logs → List ℕ
held logs = take logs.filled logs.block.items

-- what was read is what the file has from the offset on, where it is there
abbrev pub IsPart : Option Told → Option ℕ → ℕ → List ℕ → Type 0
IsPart told None start part = Unit {0}
IsPart told (Some file) start part = WhereTold told (λ t. (bytes : List ℕ) → t.reads (Log file) ≡ Some bytes → part ≡ take (length part) (drop start bytes))

-- what is kept of the log files is what they have
pub record IsKnown (told : Option Told) (logs : Logs) : Type 0 where
  pub there : IsFound told logs.file
  pub filled : logs.filled ≤ length logs.block.items
  pub part : IsPart told logs.file logs.start (held logs)

-- at most so many bytes from the offset of the file on
abbrev pub part_of : ℕ → ℕ → Logs → List ℕ
part_of at size logs = take size (drop (at - logs.start) (held logs))

-- the block was filled from the offset on, or as far as the file goes
pub record IsBlock (told : Option Told) (file at : ℕ) (logs : Logs) : Type 0 where
  pub start : logs.start ≡ at
  pub part : WhereTold told (λ t. (bytes : List ℕ) → t.reads (Log file) ≡ Some bytes → held logs ≡ take (length logs.block.items) (drop at bytes))

-- what is kept has so many bytes from the offset on, or as many as there are
pub record HasPart (told : Option Told) (file at size : ℕ) (logs : Logs) : Type 0 where
  pub from : logs.start ≤ at
  pub to : at - logs.start ≤ logs.filled
  pub part : WhereTold told (λ t. (bytes : List ℕ) → t.reads (Log file) ≡ Some bytes → part_of at size logs ≡ take size (drop at bytes))

-- its length is that of an event
abbrev pub IsSized : Pointer → Type 0
IsSized p = (event : Content) × (size event ≡ p.length)

-- the name before that of a log file, if there may be one
abbrev pub IsBefore : Option FileName → ℕ → Type 0
IsBefore None file = file ≡ 0
IsBefore (Some name) file = (n : ℕ) × (name ≡ Log n) × (file ≡ n + 1)

-- the transaction of a record, if that is a PUT of an event of this length
abbrev pub IsPutRec : Rec → ℕ → Option ℕ → Type 0
IsPutRec rec length None = (txn : ℕ) (event : Content) → rec ≡ Put txn event → size event ≡ length → ⊥
IsPutRec rec length (Some txn) = (event : Content) × (rec ≡ Put txn event) × (size event ≡ length)

-- the transaction of the PUT at a pointer of these bytes, if one of its length stands there
abbrev pub IsPutAt : List ℕ → Pointer → Option ℕ → Type 0
IsPutAt bytes p None = (event : Content) → PutAt bytes p event → ⊥
IsPutAt bytes p (Some txn) = (event : Content) × (at : PutAt bytes p event) × (at.txn ≡ txn)

-- the transaction of the PUT that a pointer names in a folder, if it names one
abbrev pub IsPutIn : Files → Pointer → Option ℕ → Type 0
IsPutIn files p None = (event : Content) → PutIn files p event → ⊥
IsPutIn files p (Some txn) = (event : Content) × PutOf files txn p event
