-- The slots of a ring, and the events that are left by them.
use Rattle.std.specs.Prelude.{◌≡◌, ◌⊎◌, ◌<◌, ◌≤◌, ◌+◌, ℕ, List, [], ◌∷◌, length, take, slice_get, Option, Some, None, Bool, true, false, ◌==◌, leb, if◌then◌else◌}
use Rattle.std.specs.List.{AllByRecursion}
use Rattle.record_form.specs.declared.record.Pointer.{Pointer}
use Rattle.event_ring.specs.declared.index.Slot.{Slot}
use Rattle.event_ring.specs.declared.index.State.{State}
pub use Rattle.event_ring.specs.declared.index.State.TheVariants.{Free, Held, Gone}

-- An event that is left: its number, where its record stands, and whether a transaction takes it.
pub record Left : Type 0 where
  pub number : ℕ
  pub pointer : Pointer
  pub held : Bool

-- How many events there may be, one above each number that was pushed, and the events that are left.
pub record Index : Type 0 where
  pub slots : ℕ
  pub top : ℕ
  pub live : List Left

abbrev pub is_gone : State → Bool
is_gone Free = false
is_gone Held = false
is_gone Gone = true

abbrev pub is_held : State → Bool
is_held Free = false
is_held Held = true
is_held Gone = false

abbrev pub left_of : Slot → Left
left_of s = record { number = s.number; pointer = record { file = s.file; at = s.at; length = s.length }; held = is_held s.state }

-- the events that are left, without the gaps
abbrev pub live_of : List Slot → List Left
live_of [] = []
live_of (s ∷ slots) = if is_gone s.state then live_of slots else left_of s ∷ live_of slots

-- the slots without the gaps
abbrev pub closed : List Slot → List Slot
closed [] = []
closed (s ∷ slots) = if is_gone s.state then closed slots else s ∷ closed slots

abbrev pub index_of : ℕ → ℕ → List Slot → Index
index_of slots top items = record { slots = slots; top = top; live = live_of items }

-- numbers rise from this one on, and stay below that one
abbrev pub Rises : ℕ → List Slot → ℕ → Type 0
Rises low [] top = low ≤ top
Rises low (s ∷ slots) top = (low ≤ s.number) × Rises (s.number + 1) slots top

-- the slot is not free
abbrev pub IsBusy : Slot → Type 0
IsBusy s = s.state ≡ Free → ⊥

pub record IsRing (slots : List Slot) (top live from : ℕ) : Type 0 where
  pub rises : Rises 0 slots top
  pub counted : live ≡ length (live_of slots)
  pub within : from ≤ length slots
  pub busy : AllByRecursion IsBusy (take from slots)

-- numbers before the place are below this one, and those from it on are not
pub record IsFront (slots : List Slot) (number place : ℕ) : Type 0 where
  pub within : place ≤ length slots
  pub below : (k : ℕ) (s : Slot) → k < place → slice_get slots k ≡ Some s → s.number < number
  pub above : (k : ℕ) (s : Slot) → place ≤ k → slice_get slots k ≡ Some s → number ≤ s.number

-- one of the events has this number
abbrev pub IsLive : List Left → ℕ → Type 0
IsLive [] number = ⊥
IsLive (l ∷ live) number = (l.number ≡ number) ⊎ IsLive live number

-- the events, of which the one of this number is held or not
abbrev pub marked : ℕ → Bool → List Left → List Left
marked number held [] = []
marked number held (l ∷ live) = (if l.number == number then record l { held = held } else l) ∷ marked number held live

-- the events but the one of this number
abbrev pub lasting : ℕ → List Left → List Left
lasting number [] = []
lasting number (l ∷ live) = if l.number == number then lasting number live else l ∷ lasting number live

-- the least number that isn't held
abbrev pub first_free : List Left → Option ℕ
first_free [] = None
first_free (l ∷ live) = if l.held then first_free live else Some l.number

-- where the record of the event of this number stands
abbrev pub pointer_at : ℕ → List Left → Option Pointer
pointer_at number [] = None
pointer_at number (l ∷ live) = if l.number == number then Some l.pointer else pointer_at number live

-- where that record stands, and whether the event is held
abbrev pub look_at : ℕ → List Left → Option (Pointer × Bool)
look_at number [] = None
look_at number (l ∷ live) = if l.number == number then Some (l.pointer, l.held) else look_at number live

-- the least number above this one, or the least of all
abbrev pub least_above : Option ℕ → ℕ
least_above None = 0
least_above (Some number) = number + 1

-- of the events from a number on the first, with the place of its record
abbrev pub next_from : ℕ → List Left → Option (ℕ × Pointer)
next_from low [] = None
next_from low (l ∷ live) = if leb low l.number then Some (l.number, l.pointer) else next_from low live

-- slots from the first place on that have no event, before the second one
abbrev pub AreGaps : ℕ → ℕ → List Slot → Type 0
AreGaps from to slots = (k : ℕ) (s : Slot) → from ≤ k → k < to → slice_get slots k ≡ Some s → is_gone s.state ≡ true
