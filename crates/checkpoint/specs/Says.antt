-- The checkpoint of a ring and a table.
use Rattle.std.specs.Prelude.{◌≡◌, ◌^◌, ℕ, List, [], ◌∷◌, map, Option, Some, None, ◌==◌, if◌then◌else◌}
use Rattle.std.specs.List.{AllByRecursion}
use Rattle.record_form.specs.declared.record.Pointer.{Pointer}
use Rattle.event_ring.specs.Slots.{Index, Left}
use Rattle.open_table.specs.Tables.{Open, Table, open_at, puts_of, takes_of}
use Rattle.checkpoint.specs.declared.place.Next.{Next}
use Rattle.checkpoint.specs.declared.place.Place.{Place}
use Rattle.checkpoint.specs.Right.{HasSome}
use Rattle.checkpoint.specs.Text.{CheckText, Rise}

-- an event that is left, with the place of its record
abbrev pub live_at : Left → ℕ × Pointer
live_at l = (l.number, l.pointer)

-- what a transaction lists; of one that is not listed nothing
abbrev pub listed_at : {A : Type 0} → ℕ → List (ℕ × List A) → List A
listed_at txn [] = []
listed_at txn (o ∷ listed) = if o.0 == txn then o.1 else listed_at txn listed

-- the puts of a transaction, if it is open
abbrev pub puts_in : Option Open → List Pointer
puts_in None = []
puts_in (Some o) = puts_of o.listed

-- its takes
abbrev pub takes_in : Option Open → List ℕ
takes_in None = []
takes_in (Some o) = takes_of o.listed

abbrev pub puts_at : Table → ℕ → List Pointer
puts_at table txn = puts_in (open_at table txn)

abbrev pub takes_at : Table → ℕ → List ℕ
takes_at table txn = takes_in (open_at table txn)

-- These are the transactions that have something, in the order of their numbers, with just what each has.
pub record AreListed {A : Type 0} (of : ℕ → List A) (listed : List (ℕ × List A)) : Type 0 where
  pub rise : Rise 0 (2 ^ 64) listed
  pub some : AllByRecursion HasSome listed
  pub each : (txn : ℕ) → listed_at txn listed ≡ of txn

-- What a checkpoint at a place says of the events that are left and of the open transactions. Those that have done nothing are left out.
pub record Says (place : Place) (next : Next) (ring : Index) (table : Table) (c : CheckText) : Type 0 where
  pub place_is : c.place ≡ place
  pub next_is : c.next ≡ next
  pub live : c.live ≡ map live_at ring.live
  pub puts : AreListed (puts_at table) c.puts
  pub takes : AreListed (takes_at table) c.takes

-- a transaction's entry, unless it has nothing
abbrev pub entry_of : {A : Type 0} → ℕ → List A → List (ℕ × List A)
entry_of txn [] = []
entry_of txn (item ∷ items) = (txn, item ∷ items) ∷ []
