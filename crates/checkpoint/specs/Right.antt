-- Whether a checkpoint is right for a folder.
use Rattle.std.specs.Prelude.{◌≡◌, ◌<◌, ◌≤◌, ◌+◌, ◌^◌, ℕ, List, [], ◌∷◌, ◌++◌, length, map, IsSomeAnd, true, false}
use Rattle.std.specs.List.{AllByRecursion}
use Rattle.flume_host.specs.Folder.{Files}
use Rattle.flume_host.specs.declared.names.FileName.TheVariants.{Log}
use Rattle.event_core.specs.Content.{Content}
use Rattle.event_core.specs.Journal.{is_among}
use Rattle.event_core.specs.declared.journal.Entry.{Entry}
use Rattle.event_core.specs.declared.journal.Entry.TheVariants.{Puts, Takes}
use Rattle.record_form.specs.declared.record.Pointer.{Pointer}
use Rattle.record_form.specs.Pointers.{PutAt}
use Rattle.checkpoint.specs.Text.{CheckText, FitCounts, Rise}

abbrev pub number_of : {A : Type 0} → ℕ × A → ℕ
number_of x = x.0

-- what the transactions list, one after the other
abbrev pub all_of : {A : Type 0} → List (ℕ × List A) → List A
all_of [] = []
all_of (x ∷ xs) = x.1 ++ all_of xs

-- each stands among others, and none twice
abbrev pub AreOnceAmong : List ℕ → List ℕ → Type 0
AreOnceAmong others [] = Unit {0}
AreOnceAmong others (n ∷ numbers) = (is_among others n ≡ true) × (is_among numbers n ≡ false) × AreOnceAmong others numbers

-- none stands among others
abbrev pub AreApartFrom : List ℕ → List ℕ → Type 0
AreApartFrom others numbers = AllByRecursion (λ n. is_among others n ≡ false) numbers

-- it lists something
abbrev pub HasSome : {A : Type 0} → ℕ × List A → Type 0
HasSome o = 1 ≤ length o.1

-- the PUT of an event stands at a pointer into a file that is there
abbrev pub PutIn : Files → Pointer → Content → Type 0
PutIn files p event = IsSomeAnd (files (Log p.file)) (λ bytes. PutAt bytes p event)

-- and it is a record of this transaction
abbrev pub PutOf : Files → ℕ → Pointer → Content → Type 0
PutOf files txn p event = IsSomeAnd (files (Log p.file)) (λ bytes. (at : PutAt bytes p event) × (at.txn ≡ txn))

-- these events stand at the pointers, under the same numbers
abbrev pub LiveAre : Files → List (ℕ × Pointer) → List (ℕ × Content) → Type 0
LiveAre files [] [] = Unit {0}
LiveAre files [] (item ∷ items) = ⊥
LiveAre files (l ∷ live) [] = ⊥
LiveAre files (l ∷ live) (item ∷ items) = (l.0 ≡ item.0) × PutIn files l.1 item.1 × LiveAre files live items

-- these events stand at the pointers, as puts of a transaction
abbrev pub EventsAre : Files → ℕ → List Pointer → List Content → Type 0
EventsAre files txn [] [] = Unit {0}
EventsAre files txn [] (event ∷ events) = ⊥
EventsAre files txn (p ∷ pointers) [] = ⊥
EventsAre files txn (p ∷ pointers) (event ∷ events) = PutOf files txn p event × EventsAre files txn pointers events

-- these are open, puts before takes
abbrev pub OpenAre : Files → List (ℕ × List Pointer) → List (ℕ × List ℕ) → List (ℕ × Entry) → Type 0
OpenAre files (o ∷ puts) takes ((txn, Puts events) ∷ opened) = (txn ≡ o.0) × EventsAre files txn o.1 events × OpenAre files puts takes opened
OpenAre files [] (o ∷ takes) ((txn, Takes numbers) ∷ opened) = (txn ≡ o.0) × (numbers ≡ o.1) × OpenAre files [] takes opened
OpenAre files [] [] [] = Unit {0}
OpenAre files puts takes opened = ⊥

-- What a checkpoint says is right for a folder: these events are left, and this is open.
pub record IsRight (files : Files) (c : CheckText) (left : List (ℕ × Content)) (opened : List (ℕ × Entry)) : Type 0 where
  pub place : IsSomeAnd (files (Log c.place.file)) (λ bytes. (16 ≤ c.place.at) × (c.place.at < length bytes))
  pub numbers : Rise 0 c.next.number c.live
  pub next : 1 ≤ c.next.txn
  pub put_txns : Rise 1 c.next.txn c.puts
  pub take_txns : Rise 1 c.next.txn c.takes
  pub apart : AreApartFrom (map number_of c.puts) (map number_of c.takes)
  pub few : length c.puts + length c.takes ≤ 1024
  pub some_puts : AllByRecursion HasSome c.puts
  pub some_takes : AllByRecursion HasSome c.takes
  pub held : AreOnceAmong (map number_of c.live) (all_of c.takes)
  pub few_live : length c.live < 2 ^ 32
  pub puts_fit : FitCounts c.puts
  pub takes_fit : FitCounts c.takes
  pub live : LiveAre files c.live left
  pub opens : OpenAre files c.puts c.takes opened

-- It is right for a folder, whatever events are left and open.
pub record IsRightText (files : Files) (c : CheckText) : Type 0 where
  pub left : List (ℕ × Content)
  pub opened : List (ℕ × Entry)
  pub right : IsRight files c left opened
