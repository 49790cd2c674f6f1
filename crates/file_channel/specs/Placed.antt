-- What stands at the pointers of a channel's events, and the state that its places and its log stand for.
use Rattle.std.specs.Prelude.{◌≡◌, ◌≢◌, ◌⊎◌, ◌<◌, ◌≤◌, ℕ, List, [], take, Option, None, Some, false}
use Rattle.std.specs.List.{AllByRecursion}
use Rattle.flume_host.specs.Folder.{settle_entry}
use Rattle.flume_host.specs.Told.{Told, WhereTold}
use Rattle.flume_host.specs.declared.names.FileName.TheVariants.{Log}
use Rattle.event_core.specs.Content.{Content, size}
use Rattle.record_form.specs.declared.record.Pointer.{Pointer}
use Rattle.open_table.specs.Tables.{Table}
use Rattle.channel_log.specs.Writer.{Writer}
use Rattle.channel_log.specs.Window.{IsPieceOf}
use Rattle.record_form.specs.Pointers.{PutAt}
use Rattle.channel_log.specs.Pointers.{IsWaiting, end_of, in_frame}
use Rattle.channel_face.specs.Machine.{State}
use Rattle.channel_places.specs.Looks.{Known, Looks, Places, StandsIn, pointers_at}
use Rattle.channel_laying.specs.Laying.{AreNeeded}
use Rattle.channel_writing.specs.Whole.{IsWhole}
use Rattle.channel_writing.specs.Written.{IsLogged}

-- What a channel has beside its disk: the places of its events, the writer of its log, and how many open transactions have records there.
pub record Logged : Type 0 where
  pub places : Places
  pub log : Writer
  pub busy : ℕ

-- a file's bytes, and none where there is no file
abbrev pub bytes_of : Option (List ℕ) → List ℕ
bytes_of None = []
bytes_of (Some bytes) = bytes

-- what a log file has that no later call changes: in the writer's own file what stands before its closed commit byte
abbrev pub settled_in : Told → Writer → ℕ → List ℕ
settled_in t w file = take (end_of w file) (bytes_of (t.reads (Log file)))

-- the event's PUT stands at the pointer in its file, or it waits there for a flush
abbrev pub IsThere : Told → Writer → Pointer → Content → Type 0
IsThere t w p event = PutAt (settled_in t w p.file) p event ⊎ (IsWaiting w p × PutAt w.bytes (in_frame w p) event)

-- a crash leaves this log file as reads give it
abbrev pub IsStill : Told → ℕ → Type 0
IsStill t file = t.now (Log file) ≡ settle_entry (t.reads (Log file))

-- a PUT of this transaction stands at the pointer
abbrev pub PutBy : List ℕ → ℕ → Pointer → Content → Type 0
PutBy bytes txn p event = (at : PutAt bytes p event) × (at.txn ≡ txn)

-- and so in its file, or it waits there for a flush
abbrev pub IsOwn : Told → Writer → ℕ → Pointer → Type 0
IsOwn t w txn p = (event : Content) × (PutBy (settled_in t w p.file) txn p event ⊎ (IsWaiting w p × PutBy w.bytes txn (in_frame w p) event))

-- at each pointer of an open transaction there is a PUT of its own
abbrev pub AreOwn : Option Told → Writer → Table → Type 0
AreOwn told w table = WhereTold told (λ t. (txn : ℕ) → AllByRecursion (λ p. IsOwn t w txn p) (pointers_at table txn))

-- the file of which something is kept was before the writer's own, and no pointer is into it
abbrev pub IsForgotten : Writer → Known → Type 0
IsForgotten w known = (w.kept.file < w.file) × ((p : Pointer) (event : Content) → StandsIn known p event → p.file ≢ w.kept.file)

-- A log file, and those of some pointers, have this number or a greater one.
pub record AreNotBelow (least file : ℕ) (known : Known) : Type 0 where
  pub own : least ≤ file
  pub each : (p : Pointer) (event : Content) → StandsIn known p event → least ≤ p.file

-- the writer's own file, and those of the pointers, are none that a prune removes
abbrev pub AreNeeding : Option Told → ℕ → Known → Type 0
AreNeeding told file known = WhereTold told (λ t. (least laid : ℕ) → AreNeeded t least laid → AreNotBelow least file known)

-- Each pointer has its event's length. Where the disk shows its contents, the event's PUT stands at the pointer, what is kept of the last reading is what its file has
-- if a pointer is into that, nothing of what is known to be settled waits for a flush, and no prune removes a file with one of the events.
pub record ArePlaced (told : Option Told) (w : Writer) (settled known : Known) : Type 0 where
  pub long : (p : Pointer) (event : Content) → StandsIn known p event → size event ≡ p.length
  pub there : WhereTold told (λ t. (p : Pointer) (event : Content) → StandsIn known p event → IsThere t w p event)
  -- of another file than the writer's own a crash leaves just that
  pub still : WhereTold told (λ t. (p : Pointer) (event : Content) → StandsIn known p event → p.file ≢ w.file → IsStill t p.file)
  pub piece : WhereTold told (λ t. IsForgotten w known ⊎ IsPieceOf w.kept (settled_in t w))
  pub within : (p : Pointer) (event : Content) → StandsIn settled p event → StandsIn known p event
  pub written : WhereTold told (λ t. (p : Pointer) (event : Content) → StandsIn settled p event → IsWaiting w p → ⊥)
  pub needing : AreNeeding told w.file known

-- A channel's places look like this state, its log has the state's changes, and each event stands at its pointer.
pub record Fits (told : Option Told) (c : Logged) (s : State) : Type 0 where
  pub settled : Known
  pub known : Known
  pub looks : Looks settled known c.places s
  pub placed : ArePlaced told c.log settled known
  pub owned : AreOwn told c.log c.places.opened
  pub logged : IsLogged told c.log c.busy s

-- A channel's places and its log stand for this state. What a broken channel's log has of it is not known.
pub record IsStateOf (told : Option Told) (c : Logged) (s : State) : Type 0 where
  pub settled : Known
  pub known : Known
  pub looks : Looks settled known c.places s
  pub placed : s.broken ≡ false → ArePlaced told c.log settled known
  pub owned : s.broken ≡ false → AreOwn told c.log c.places.opened
  pub whole : IsWhole told c.log c.busy s

-- they stand for some state
abbrev pub HasState : Option Told → Logged → Type 0
HasState told c = (s : State) × IsStateOf told c s
