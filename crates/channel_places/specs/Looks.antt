-- What a channel keeps of its events in memory, and the state of the machine that it looks like.
use Rattle.std.specs.Prelude.{◌≡◌, ◌⊎◌, ◌<◌, ◌≤◌, ◌+◌, ◌^◌, ℕ, List, [], ◌∷◌, ◌++◌, length, Option, Some, None, IsSome, Bool, true, false}
use Rattle.event_core.specs.Content.{Content}
use Rattle.event_core.specs.Journal.{AreDistinctOf, IsBase, IsJournal, is_among, put_events, taken_numbers}
use Rattle.event_core.specs.declared.journal.Entry.{Entry}
use Rattle.event_core.specs.declared.journal.Entry.TheVariants as entry
use Rattle.record_form.specs.declared.record.Pointer.{Pointer}
use Rattle.open_table.specs.Tables.{Listed, Puts, Takes, Open, Table, MayAdd, moved_pointer, open_at, puts_of, size}
use Rattle.open_table.specs.declared.table.Item.TheVariants.{Put, Take}
use Rattle.event_ring.specs.Slots.{Left}
use Rattle.channel_face.specs.Machine.{Call, Rules, State, Admits, after, base_of, entries, entry_of}
use Rattle.channel_face.specs.Token.{Token}

-- pointers, each with an event that stands there
abbrev pub Known : Type 0
Known = List (Pointer × Content)

abbrev pub StandsIn : Known → Pointer → Content → Type 0
StandsIn [] p event = ⊥
StandsIn (k ∷ known) p event = (k ≡ (p, event)) ⊎ StandsIn known p event

-- what a state has besides events
pub record Numbers : Type 0 where
  pub rules : Rules
  pub first : ℕ
  pub txn : ℕ
  pub broken : Bool
  pub life : ℕ
  pub frame : ℕ
  pub ends : List ℕ

abbrev pub numbers_of : State → Numbers
numbers_of s = record { rules = s.rules; first = s.first; txn = s.txn; broken = s.broken; life = s.life; frame = s.frame; ends = s.ends }

-- the state of these numbers that has no event
abbrev pub eventless : Numbers → State
eventless n = record { rules = n.rules; items = []; first = n.first; txn = n.txn; opened = []; staged = []; broken = n.broken; life = n.life; frame = n.frame; ends = n.ends }

-- What a channel keeps in memory: the events that are left, the open transactions, what is staged, how many puts are open, and numbers.
pub record Places : Type 0 where
  pub live : List Left
  pub opened : Table
  pub staged : List Listed
  pub open_puts : ℕ
  pub numbers : Numbers

-- these events stand at these pointers
abbrev pub LookPuts : Known → List Pointer → List Content → Type 0
LookPuts known [] [] = Unit {0}
LookPuts known [] (event ∷ events) = ⊥
LookPuts known (p ∷ pointers) [] = ⊥
LookPuts known (p ∷ pointers) (event ∷ events) = StandsIn known p event × LookPuts known pointers events

-- what a transaction has, by pointers and by events
abbrev pub LooksListed : Known → Listed → Entry → Type 0
LooksListed known (Puts pointers) (entry.Puts events) = LookPuts known pointers events
LooksListed known (Puts pointers) (entry.Takes numbers) = ⊥
LooksListed known (Takes numbers) (entry.Puts events) = ⊥
LooksListed known (Takes numbers) (entry.Takes taken) = numbers ≡ taken

abbrev pub LooksOpen : Known → ℕ → Option Open → Option Entry → Type 0
LooksOpen known room None None = Unit {0}
LooksOpen known room None (Some e) = ⊥
LooksOpen known room (Some o) None = ⊥
LooksOpen known room (Some o) (Some e) = LooksListed known o.listed e × (o.room ≡ room)

abbrev pub LookStaged : Known → List Listed → List Entry → Type 0
LookStaged known [] [] = Unit {0}
LookStaged known [] (e ∷ staged) = ⊥
LookStaged known (listed ∷ more) [] = ⊥
LookStaged known (listed ∷ more) (e ∷ staged) = LooksListed known listed e × LookStaged known more staged

-- the events that are left, of which those of these numbers are held
abbrev pub LookLeft : Known → List ℕ → List Left → List (ℕ × Content) → Type 0
LookLeft known held [] [] = Unit {0}
LookLeft known held [] (item ∷ items) = ⊥
LookLeft known held (l ∷ live) [] = ⊥
LookLeft known held (l ∷ live) (item ∷ items) = ((l.number ≡ item.0) × (l.held ≡ is_among held item.0) × StandsIn known l.pointer item.1) × LookLeft known held live items

-- the numbers that open and staged transactions take
abbrev pub held_in : State → List ℕ
held_in s = taken_numbers (entries s.opened) ++ taken_numbers s.staged

-- the numbers of open transactions rise from this one on, and stay below that one
abbrev pub OpenRise : ℕ → List (ℕ × Entry) → ℕ → Type 0
OpenRise low [] txn = low ≤ txn
OpenRise low (o ∷ opened) txn = (low ≤ o.0) × OpenRise (o.0 + 1) opened txn

-- What is true of each state that the machine comes to: numbers rise, those of events and those of transactions, no number is taken twice and each is of an
-- event that is left, and nothing empty is staged.
pub record IsSound (s : State) : Type 0 where
  pub base : IsBase (base_of s)
  pub held : AreDistinctOf s.items (held_in s)
  pub opened : OpenRise 0 s.opened s.txn
  pub staged : IsJournal s.staged

-- These places look like this state: what is left stands at pointers that are settled, and what is open or staged at known ones.
pub record Looks (settled known : Known) (p : Places) (s : State) : Type 0 where
  pub sound : IsSound s
  pub left : LookLeft settled (held_in s) p.live s.items
  pub opened : (txn : ℕ) → LooksOpen known s.rules.limits.txn_capacity (open_at p.opened txn) (entry_of txn s.opened)
  pub as_many : length p.opened ≡ length s.opened
  pub open_puts : p.open_puts ≡ length (put_events (entries s.opened))
  pub staged : LookStaged known p.staged s.staged
  pub numbers : p.numbers ≡ numbers_of s

-- what a transaction has that has just begun
abbrev pub no_entry : Bool → Entry
no_entry true = entry.Puts []
no_entry false = entry.Takes []

-- with a transaction more, that has nothing yet
abbrev pub with_begun : Bool → State → State
with_begun puts s = record s { opened = s.opened ++ (s.txn, no_entry puts) ∷ []; txn = s.txn + 1 }

-- The machine may give this call this reply in each state that the old places look like, and the new ones look like the state after it.
abbrev pub Steps : Places → Call → Places → Type 0
Steps old call new = (settled known : Known) (s : State) → Looks settled known old s → Admits true s call × Looks settled known new (after s call)

abbrev pub puts_in : List Listed → ℕ
puts_in [] = 0
puts_in (listed ∷ staged) = length (puts_of listed) + puts_in staged

-- the events that are left, and those of open and staged puts
abbrev pub count_in : Places → ℕ
count_in p = length p.live + p.open_puts + puts_in p.staged

-- the token is of this life, and P of what its transaction has
abbrev pub IsOpenFor : Places → Token → (Option Open → Type 0) → Type 0
IsOpenFor p token P = (token.life ≡ p.numbers.life) × P (open_at p.opened token.number)

-- what a transaction has is within its room
abbrev pub IsWithinRoom : Option Open → Type 0
IsWithinRoom None = Unit {0}
IsWithinRoom (Some o) = size o.listed ≤ o.room

-- this token's transaction has puts and room for one more, and so has the channel
pub record MayPut (p : Places) (token : Token) (pointer : Pointer) : Type 0 where
  pub life : token.life ≡ p.numbers.life
  pub room : MayAdd (Put pointer) (open_at p.opened token.number)
  pub few : count_in p < p.numbers.rules.limits.capacity

-- this token's transaction has takes and room for one more
pub record MayTake (p : Places) (token : Token) : Type 0 where
  pub life : token.life ≡ p.numbers.life
  pub room : MayAdd (Take 0) (open_at p.opened token.number)

abbrev pub puts_of_open : Option Open → ℕ
puts_of_open None = 0
puts_of_open (Some o) = length (puts_of o.listed)

-- this transaction is open, and there are numbers for its puts after those that are staged
pub record MayStage (p : Places) (number : ℕ) : Type 0 where
  pub there : IsSome (open_at p.opened number)
  pub numbers : p.numbers.first + puts_in p.staged + puts_of_open (open_at p.opened number) < 2 ^ 64

-- what is staged of a transaction: nothing, where it has nothing
abbrev pub staged_of : Listed → List Listed
staged_of (Puts []) = []
staged_of (Takes []) = []
staged_of listed = listed ∷ []

-- a transaction has so few puts or takes that 32 bits tell how many
abbrev pub IsFewOpen : Option Open → Type 0
IsFewOpen None = Unit {0}
IsFewOpen (Some o) = size o.listed < 2 ^ 32

-- the pointers of what a transaction puts, if it is open
abbrev pub pointers_of : Option Open → List Pointer
pointers_of None = []
pointers_of (Some o) = puts_of o.listed

abbrev pub pointers_at : Table → ℕ → List Pointer
pointers_at table txn = pointers_of (open_at table txn)

-- each transaction has the puts that it had, or none
abbrev pub KeepsPuts : Table → Table → Type 0
KeepsPuts old new = (txn : ℕ) → (pointers_at new txn ≡ pointers_at old txn) ⊎ (pointers_at new txn ≡ [])

-- each event that is known to stand at a pointer is known to stand where that pointer was moved
abbrev pub Moves : ℕ → ℕ → ℕ → ℕ → Known → Known → Type 0
Moves file at to_file to_at known more = (p : Pointer) (event : Content) → StandsIn known p event → StandsIn more (moved_pointer file at to_file to_at p) event

-- the first free event, with its pointer
abbrev pub IsFree : Known → Option (ℕ × Pointer) → List (ℕ × Content) → Type 0
IsFree known None [] = Unit {0}
IsFree known None (item ∷ free) = ⊥
IsFree known (Some found) [] = ⊥
IsFree known (Some found) (item ∷ free) = (found.0 ≡ item.0) × StandsIn known found.1 item.1
