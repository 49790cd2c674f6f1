-- What the end of transactions makes of the events that are left.
use Rattle.std.specs.Prelude.{◌≡◌, ◌≤◌, ◌+◌, ℕ, List, [], ◌∷◌, ◌++◌, length, false}
use Rattle.record_form.specs.declared.record.Pointer.{Pointer}
use Rattle.open_table.specs.Tables.{Listed, puts_of, takes_of}
use Rattle.event_ring.specs.Slots.{Index, IsLive, Left, lasting, marked}

-- what all of them take, and where the puts of all of them stand, in order
abbrev pub takes_in : List Listed → List ℕ
takes_in [] = []
takes_in (listed ∷ staged) = takes_of listed ++ takes_in staged

abbrev pub pointers_in : List Listed → List Pointer
pointers_in [] = []
pointers_in (listed ∷ staged) = puts_of listed ++ pointers_in staged

-- 1 where something is staged
abbrev pub one_if_staged : List Listed → ℕ
one_if_staged [] = 0
one_if_staged (listed ∷ staged) = 1

-- an event of each of these numbers is left
abbrev pub AreLive : List Left → List ℕ → Type 0
AreLive live [] = Unit {0}
AreLive live (n ∷ numbers) = IsLive live n × AreLive live numbers

-- and none of them is named twice
abbrev pub AreApart : List Left → List ℕ → Type 0
AreApart live [] = Unit {0}
AreApart live (n ∷ numbers) = IsLive live n × AreApart (lasting n live) numbers

-- the events of these numbers are held no longer
abbrev pub freed : List ℕ → List Left → List Left
freed [] live = live
freed (n ∷ numbers) live = freed numbers (marked n false live)

-- the events but those of these numbers
abbrev pub lacking : List ℕ → List Left → List Left
lacking [] live = live
lacking (n ∷ numbers) live = lacking numbers (lasting n live)

-- events at these pointers, with numbers from this one on
abbrev pub placed : ℕ → List Pointer → List Left
placed number [] = []
placed number (p ∷ pointers) = record { number = number; pointer = p; held = false } ∷ placed (number + 1) pointers

-- They are the last events of the ring.
pub record IsAppended (first : ℕ) (pointers : List Pointer) (old new : Index) : Type 0 where
  pub slots : new.slots ≡ old.slots
  pub top : new.top ≤ first + length pointers
  pub live : new.live ≡ old.live ++ placed first pointers
