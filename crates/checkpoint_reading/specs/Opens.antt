-- The open transactions of a checkpoint, as they are read.
use Rattle.std.specs.Prelude.{◌≡◌, ◌≢◌, ◌<◌, ◌≤◌, ◌+◌, ◌^◌, ◌++◌, [], ℕ, List, length, map, flat_map, Option, Some, None, Bool, true, false}
use Rattle.std.specs.List.{AllByRecursion}
use Rattle.flume_host.specs.Folder.{Files}
use Rattle.flume_host.specs.Told.{Told, WhereTold}
use Rattle.event_core.specs.Journal.{is_among}
use Rattle.event_core.specs.Numbers.{u32_bytes, u64_bytes}
use Rattle.event_ring.specs.Slots.{Left}
use Rattle.open_table.specs.declared.table.Item.{Item}
use Rattle.open_table.specs.Tables.{IsOf, Listed, Open, Puts, Table, Takes, is_open, open_at}
use Rattle.record_form.specs.declared.record.Pointer.{Pointer}
use Rattle.checkpoint.specs.declared.check.Check.{Check}
use Rattle.checkpoint.specs.Right.{AreOnceAmong, number_of}
use Rattle.checkpoint.specs.Says.{live_at}
use Rattle.checkpoint.specs.Stands.{IsOrdered, Keeps}
use Rattle.checkpoint.specs.Text.{CheckText, entry_bytes, pointer_bytes}
use Rattle.checkpoint_reading.specs.declared.draft.Draft.{Draft}
use Rattle.checkpoint_reading.specs.Fields.{FitsFields, Field, Is32, Is64, IsPut, Outcome, TakesGive}
use Rattle.checkpoint_reading.specs.Logs.{IsSized}
use Rattle.checkpoint_reading.specs.Reader.{Reader, Takes as Reads}

-- an open transaction of puts, or of takes, that has none yet
abbrev pub nothing : Bool → Listed
nothing true = Puts []
nothing false = Takes []

-- an open transaction has just this
abbrev pub IsListing : ℕ → Listed → Table → Type 0
IsListing txn listed table = (room : ℕ) × (open_at table txn ≡ Some (record { listed = listed; room = room }))

-- A table with one more transaction, which has this.
pub record Lists (txn : ℕ) (listed : Listed) (old new : Table) : Type 0 where
  pub here : IsListing txn listed new
  pub others : (other : ℕ) → other ≢ txn → open_at new other ≡ open_at old other
  pub count : length new ≡ length old + 1

-- the item may be added to what a transaction has, once there is room
abbrev pub MayList : Item → Option Open → Type 0
MayList item None = ⊥
MayList item (Some o) = IsOf item o.listed

-- An open transaction of this number may list so many: the number is not below the first one, and is below the second.
pub record MayOpen (low high txn count : ℕ) : Type 0 where
  pub above : low ≤ txn
  pub below : txn < high
  pub fits : txn < 2 ^ 64
  pub some : 1 ≤ count
  pub few : count < 2 ^ 32

-- the bytes begin with no open transaction that may be one
abbrev pub NoOpen : ℕ → ℕ → List ℕ → Type 0
NoOpen low high bytes = (txn count : ℕ) (more : List ℕ) → bytes ≡ u64_bytes txn ++ (u32_bytes count ++ more) → MayOpen low high txn count → ⊥

-- they begin with no list of so many that is right
abbrev pub NoList : {A : Type 0} → (A → List ℕ) → (List A → Type 0) → ℕ → List ℕ → Type 0
NoList {A} spell IsRight count bytes = (items : List A) (more : List ℕ) → bytes ≡ flat_map spell items ++ more → length items ≡ count → IsRight items → ⊥

-- they begin with no open transaction that is right, where so many others are open
abbrev pub NoEntry : {A : Type 0} → (A → List ℕ) → (ℕ → List A → Type 0) → ℕ → ℕ → ℕ → List ℕ → Type 0
NoEntry {A} spell IsRight low high many bytes =
    (o : ℕ × List A) (more : List ℕ) → bytes ≡ entry_bytes spell o ++ more → MayOpen low high o.0 (length o.1) → many < 1024 → IsRight o.0 o.1 → ⊥

-- Of the events that are left just these are taken, each once.
pub record HasTaken (taken : List ℕ) (live : List Left) : Type 0 where
  pub held : AllByRecursion (λ l. l.held ≡ is_among taken l.number) live
  pub once : AreOnceAmong (map number_of (map live_at live)) taken

-- numbers that a transaction may take after these: events that are left, each once
abbrev pub MayTake : List Left → List ℕ → List ℕ → Type 0
MayTake live taken numbers = AllByRecursion Is64 numbers × AreOnceAmong (map number_of (map live_at live)) (taken ++ numbers)

-- Puts of a transaction were read.
pub record HasPuts (told : Option Told) (old new : Reader) (txn : ℕ) (before after : Draft) (pointers : List Pointer) : Type 0 where
  pub read : Reads told old new (flat_map pointer_bytes pointers)
  pub fits : AllByRecursion FitsFields pointers
  pub sized : AllByRecursion IsSized pointers
  pub stand : WhereTold told (λ t. AllByRecursion (IsPut t.reads txn) pointers)
  pub here : IsListing txn (Puts pointers) after.table
  pub lists : (base : Table) → Lists txn (Puts []) base before.table → Lists txn (Puts pointers) base after.table
  pub rest : after ≡ record before { table = after.table }

-- Takes of a transaction were read.
pub record HasTakes (told : Option Told) (old new : Reader) (txn : ℕ) (before after : Draft) (numbers : List ℕ) : Type 0 where
  pub read : Reads told old new (flat_map u64_bytes numbers)
  pub fits : AllByRecursion Is64 numbers
  pub here : IsListing txn (Takes numbers) after.table
  pub lists : (base : Table) → Lists txn (Takes []) base before.table → Lists txn (Takes numbers) base after.table
  pub taken : (taken : List ℕ) → HasTaken taken before.ring.live → HasTaken (taken ++ numbers) after.ring.live
  pub events : map live_at after.ring.live ≡ map live_at before.ring.live
  pub rest : after ≡ record before { ring = record before.ring { live = after.ring.live }; table = after.table }

-- An open put was read, with these pointers.
pub record HasPut (told : Option Told) (old new : Reader) (low txn : ℕ) (before after : Draft) : Type 0 where
  pub pointers : List Pointer
  pub may : MayOpen low before.next.txn txn (length pointers)
  pub few : length before.table < 1024
  pub read : Reads told old new (entry_bytes pointer_bytes (txn, pointers))
  pub sized : AllByRecursion IsSized pointers
  pub stand : WhereTold told (λ t. AllByRecursion (IsPut t.reads txn) pointers)
  pub lists : Lists txn (Puts pointers) before.table after.table
  pub rest : after ≡ record before { table = after.table }

-- An open take was read, with these numbers.
pub record HasTake (told : Option Told) (old new : Reader) (low txn : ℕ) (before after : Draft) : Type 0 where
  pub numbers : List ℕ
  pub may : MayOpen low before.next.txn txn (length numbers)
  pub few : length before.table < 1024
  pub apart : is_open true (open_at before.table txn) ≡ false
  pub read : Reads told old new (entry_bytes u64_bytes (txn, numbers))
  pub fits : AllByRecursion Is64 numbers
  pub lists : Lists txn (Takes numbers) before.table after.table
  pub taken : (taken : List ℕ) → HasTaken taken before.ring.live → HasTaken (taken ++ numbers) after.ring.live
  pub events : map live_at after.ring.live ≡ map live_at before.ring.live
  pub rest : after ≡ record before { ring = record before.ring { live = after.ring.live }; table = after.table }

-- it has so much of this checkpoint
abbrev pub check_of : ℕ → Draft → Check
check_of number d = record { number = number; place = d.place; next = d.next; ring = d.ring; table = d.table }

-- each pointer of a text has the length of an event
pub record AreEvents (c : CheckText) : Type 0 where
  pub live : AllByRecursion (λ l. IsSized l.1) c.live
  pub puts : AllByRecursion (λ o. AllByRecursion IsSized o.1) c.puts

-- This text was read: ring and table are what it says, its numbers are in order, and just its transactions are open.
pub record HasRead (d : Draft) (c : CheckText) : Type 0 where
  pub keeps : (number : ℕ) → Keeps (check_of number d) c
  pub ordered : IsOrdered c
  pub events : AreEvents c
  pub puts : (txn : ℕ) → is_open true (open_at d.table txn) ≡ is_among (map number_of c.puts) txn
  pub takes : (txn : ℕ) → is_open false (open_at d.table txn) ≡ is_among (map number_of c.takes) txn

-- and no open take of it
pub record HasReadPuts (d : Draft) (c : CheckText) : Type 0 where
  pub read : HasRead d c
  pub none : c.takes ≡ []

-- the count of open takes, and these
abbrev pub TakenGive : Files → Outcome → CheckText → List ℕ → Type 0
TakenGive files o c = Field u32_bytes Is32 (TakesGive o c 1) o
