-- What the bytes of a checkpoint give, read field by field: what it says, or its first fault.
use Rattle.std.specs.Prelude.{◌≡◌, ◌⊎◌, ◌<◌, ◌≤◌, ◌+◌, ◌^◌, ℕ, zero, suc, List, [], ◌∷◌, ◌++◌, length, map, drop, codes, Option, Some, None, IsSome, IsSomeAnd, false}
use Rattle.std.specs.List.{AllByRecursion}
use Rattle.flume_host.specs.Folder.{Files}
use Rattle.flume_host.specs.declared.names.FileName.TheVariants.{Check, Log}
use Rattle.event_core.specs.Content.{Content}
use Rattle.event_core.specs.Journal.{is_among}
use Rattle.event_core.specs.Numbers.{u32_bytes, u64_bytes}
use Rattle.record_form.specs.declared.record.Pointer.{Pointer}
use Rattle.checkpoint.specs.declared.place.Next.{Next}
use Rattle.checkpoint.specs.declared.place.Place.{Place}
use Rattle.checkpoint.specs.Right.{AreOnceAmong, PutIn, PutOf, all_of, number_of}
use Rattle.checkpoint.specs.Text.{CheckText, entry_bytes, live_bytes, pointer_bytes}

-- what reading gives: what the checkpoint says, or what is left from the first fault on
pub data Outcome : Type 0 where
  Good : CheckText → Outcome
  Bad : List ℕ → Outcome

-- Here stands a field that is right, and what is after it gives the rest; or none does, and here is the first fault.
abbrev pub Field : {A : Type 0} → (A → List ℕ) → (A → Type 0) → (A → List ℕ → Type 0) → Outcome → List ℕ → Type 0
Field {A} spell IsRight Behind o bytes =
    ((a : A) × (more : List ℕ) × (bytes ≡ spell a ++ more) × IsRight a × Behind a more)
    ⊎ (((a : A) (more : List ℕ) → bytes ≡ spell a ++ more → IsRight a → ⊥) × (o ≡ Bad bytes))

-- the end of the file, or a fault
abbrev pub End : CheckText → Outcome → List ℕ → Type 0
End c o bytes = ((bytes ≡ []) × (o ≡ Good c)) ⊎ ((1 ≤ length bytes) × (o ≡ Bad bytes))

abbrev pub Is32 : ℕ → Type 0
Is32 n = n < 2 ^ 32

abbrev pub Is64 : ℕ → Type 0
Is64 n = n < 2 ^ 64

-- the numbers of a pointer fit their fields
pub record FitsFields (p : Pointer) : Type 0 where
  pub file : p.file < 2 ^ 32
  pub at : p.at < 2 ^ 64
  pub length : p.length < 2 ^ 32

-- An event that is left: its number is not below this one and is below the next one, and its PUT stands at the pointer.
pub record IsLive (files : Files) (c : CheckText) (low : ℕ) (l : ℕ × Pointer) : Type 0 where
  pub above : low ≤ l.0
  pub below : l.0 < c.next.number
  pub fits : l.0 < 2 ^ 64
  pub pointer : FitsFields l.1
  pub event : Content
  pub stands : PutIn files l.1 event

-- a put of a transaction: its PUT, a record of that transaction, stands at the pointer
abbrev pub IsPut : Files → ℕ → Pointer → Type 0
IsPut files txn p = FitsFields p × (event : Content) × PutOf files txn p event

-- An open transaction: its number is not below this one and is below the next one, fewer than 1,024 others are open, and it lists something.
pub record IsEntry {A : Type 0} (c : CheckText) (low : ℕ) (o : ℕ × List A) : Type 0 where
  pub above : low ≤ o.0
  pub below : o.0 < c.next.txn
  pub fits : o.0 < 2 ^ 64
  pub few : length c.puts + length c.takes < 1024
  pub some : 1 ≤ length o.1
  pub count : length o.1 < 2 ^ 32

-- An open put.
pub record IsOpenPut (files : Files) (c : CheckText) (low : ℕ) (o : ℕ × List Pointer) : Type 0 where
  pub entry : IsEntry c low o
  pub puts : AllByRecursion (IsPut files o.0) o.1

-- An open take: no put has its number, and with those of the takes before it each of its numbers is left and stands once.
pub record IsOpenTake (c : CheckText) (low : ℕ) (o : ℕ × List ℕ) : Type 0 where
  pub entry : IsEntry c low o
  pub apart : is_among (map number_of c.puts) o.0 ≡ false
  pub numbers : AllByRecursion Is64 o.1
  pub held : AreOnceAmong (map number_of c.live) (all_of c.takes ++ o.1)

-- the text with one more of these
abbrev pub with_live : CheckText → ℕ × Pointer → CheckText
with_live c l = record c { live = c.live ++ l ∷ [] }

abbrev pub with_put : CheckText → ℕ × List Pointer → CheckText
with_put c o = record c { puts = c.puts ++ o ∷ [] }

abbrev pub with_take : CheckText → ℕ × List ℕ → CheckText
with_take c o = record c { takes = c.takes ++ o ∷ [] }

-- so many open takes, with numbers from this one on, and the end
abbrev pub TakesGive : Outcome → CheckText → ℕ → ℕ → List ℕ → Type 0
TakesGive o c low zero bytes = End c o bytes
TakesGive o c low (suc n) bytes = Field (entry_bytes u64_bytes) (IsOpenTake c low) (λ e. TakesGive o (with_take c e) (e.0 + 1) n) o bytes

-- so many open puts, and the count of open takes
abbrev pub PutsGive : Files → Outcome → CheckText → ℕ → ℕ → List ℕ → Type 0
PutsGive files o c low zero bytes = Field u32_bytes Is32 (TakesGive o c 1) o bytes
PutsGive files o c low (suc n) bytes = Field (entry_bytes pointer_bytes) (IsOpenPut files c low) (λ e. PutsGive files o (with_put c e) (e.0 + 1) n) o bytes

-- so many events that are left, and the count of open puts
abbrev pub LiveGive : Files → Outcome → CheckText → ℕ → ℕ → List ℕ → Type 0
LiveGive files o c low zero bytes = Field u32_bytes Is32 (PutsGive files o c 1) o bytes
LiveGive files o c low (suc n) bytes = Field live_bytes (IsLive files c low) (λ l. LiveGive files o (with_live c l) (l.0 + 1) n) o bytes

-- what a checkpoint with empty lists says
abbrev pub head_text : Place → Next → CheckText
head_text place next = record { place = place; next = next; live = []; puts = []; takes = [] }

-- the place is in a file that is there, between its header and its end
abbrev pub IsPlace : Files → Place → Type 0
IsPlace files place = (place.at < 2 ^ 64) × IsSomeAnd (files (Log place.file)) (λ bytes. (16 ≤ place.at) × (place.at < length bytes))

-- the count of events that are left, and these
abbrev pub ListsGive : Files → Outcome → Place → Next → List ℕ → Type 0
ListsGive files o place next = Field u32_bytes Is32 (LiveGive files o (head_text place next) 0) o

-- the next transaction's number
abbrev pub TxnGives : Files → Outcome → Place → ℕ → List ℕ → Type 0
TxnGives files o place number = Field u64_bytes (λ txn. (1 ≤ txn) × Is64 txn) (λ txn. ListsGive files o place (record { number = number; txn = txn })) o

-- the next event's number
abbrev pub NumbersGive : Files → Outcome → Place → List ℕ → Type 0
NumbersGive files o place = Field u64_bytes Is64 (TxnGives files o place) o

-- the offset of the place
abbrev pub OffsetGives : Files → Outcome → ℕ → List ℕ → Type 0
OffsetGives files o file = Field u64_bytes (λ at. IsPlace files (record { file = file; at = at })) (λ at. NumbersGive files o (record { file = file; at = at })) o

-- the file of the place, which is there
abbrev pub PlaceGives : Files → Outcome → List ℕ → Type 0
PlaceGives files o = Field u32_bytes (λ file. Is32 file × IsSome (files (Log file))) (OffsetGives files o) o

-- the form
abbrev pub FormGives : Files → Outcome → List ℕ → Type 0
FormGives files o = Field u32_bytes (λ form. form ≡ 1) (λ form. PlaceGives files o) o

-- The bytes after a checkpoint's commit byte give this: its text, its form, and what follows.
abbrev pub Gives : Files → Outcome → List ℕ → Type 0
Gives files o = Field (λ text. text) (λ text. text ≡ codes "FLUMECHK") (λ text. FormGives files o) o

-- the bytes of a checkpoint's file, if it is there
abbrev pub bytes_of : Option (List ℕ) → List ℕ
bytes_of None = []
bytes_of (Some bytes) = bytes

abbrev pub check_file : Files → ℕ → List ℕ
check_file files number = bytes_of (files (Check number))

-- the first fault of the checkpoint of this number is at this offset
pub record IsFault (files : Files) (number at : ℕ) : Type 0 where
  pub rest : List ℕ
  pub gives : Gives files (Bad rest) (drop 1 (check_file files number))
  pub place : at + length rest ≡ length (check_file files number)
