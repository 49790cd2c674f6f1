-- A table of open transactions, and what each call makes of it.
use Rattle.std.specs.Prelude.{◌≡◌, ◌≢◌, ◌⊎◌, ◌<◌, ◌≤◌, ◌+◌, ◌-◌, ◌*◌, ◌^◌, ◌==◌, ℕ, nat_le, nat_lt, List, [], ◌∷◌, ◌++◌, length, map, All, Option, Some, None, option_map, Bool, true, false, not, if◌then◌else◌, IsSome, vec_capacity}
use Rattle.std.specs.Map.{lookup}
use Rattle.std.specs.Ordering.{is_eq, nat_cmp}
use Rattle.record_form.specs.declared.record.Pointer.{Pointer}
use Rattle.open_table.specs.declared.table.Item.{Item}
use Rattle.open_table.specs.declared.table.Item.TheVariants.{Put, Take}
use Rattle.open_table.specs.declared.table.Ended.{Ended}
use Rattle.open_table.specs.declared.table.Ended.TheVariants as ended

-- the puts of a transaction, or its takes, in the order of its calls
pub data Listed : Type 0 where
  Puts : List Pointer → Listed
  Takes : List ℕ → Listed

-- what a transaction has open
pub record Open : Type 0 where
  pub listed : Listed
  -- the most puts or takes that it may have
  pub room : ℕ

-- the open transactions with their numbers, which rise
abbrev pub Table : Type 0
Table = List (ℕ × Open)

-- what the transaction of this number has, if it is open
abbrev pub open_at : Table → ℕ → Option Open
open_at table txn = lookup (λ number. is_eq (nat_cmp txn number)) table

abbrev pub listed_of : Ended → Listed
listed_of (ended.Puts pointers) = Puts pointers.items
listed_of (ended.Takes numbers) = Takes numbers.items

abbrev pub capacity_of : Ended → ℕ
capacity_of (ended.Puts pointers) = vec_capacity pointers
capacity_of (ended.Takes numbers) = vec_capacity numbers

-- a transaction that has just begun
abbrev pub begun : Bool → ℕ → Open
begun true room = record { listed = Puts []; room = room }
begun false room = record { listed = Takes []; room = room }

abbrev pub size : Listed → ℕ
size (Puts pointers) = length pointers
size (Takes numbers) = length numbers

-- a put goes to puts, and a take to takes
abbrev pub IsOf : Item → Listed → Type 0
IsOf (Put pointer) (Puts pointers) = Unit {0}
IsOf (Take number) (Takes numbers) = Unit {0}
IsOf item listed = ⊥

-- the list with one more
abbrev pub with_item : Item → Listed → Listed
with_item (Put pointer) (Puts pointers) = Puts (pointers ++ pointer ∷ [])
with_item (Take number) (Takes numbers) = Takes (numbers ++ number ∷ [])
with_item item listed = listed

-- whether the pointer is into this file, at this offset or after it
abbrev pub is_behind : ℕ → ℕ → Pointer → Bool
is_behind file at p = if p.file == file then nat_le at p.at else false

abbrev pub moved_pointer : ℕ → ℕ → ℕ → ℕ → Pointer → Pointer
moved_pointer file at to_file to_at p = if is_behind file at p then record p { file = to_file; at = to_at + (p.at - at) } else p

-- each pointer into this file, at this offset or after it, is as far after an offset of another file
abbrev pub moved : ℕ → ℕ → ℕ → ℕ → Listed → Listed
moved file at to_file to_at (Puts pointers) = Puts (map (moved_pointer file at to_file to_at) pointers)
moved file at to_file to_at (Takes numbers) = Takes numbers

abbrev pub moved_open : ℕ → ℕ → ℕ → ℕ → Open → Open
moved_open file at to_file to_at o = record o { listed = moved file at to_file to_at o.listed }

-- the pointer's new offset does not pass the greatest; where none grows, this is so of each
abbrev pub MayMoveOne : ℕ → ℕ → ℕ → Pointer → Type 0
MayMoveOne file at to_at p = (to_at ≤ at) ⊎ (is_behind file at p ≡ true → to_at + (p.at - at) < 2 ^ 64)

-- none of the new offsets passes the greatest
abbrev pub MayMove : ℕ → ℕ → ℕ → Listed → Type 0
MayMove file at to_at (Puts pointers) = All (MayMoveOne file at to_at) pointers
MayMove file at to_at (Takes numbers) = Unit {0}

abbrev pub is_puts : Listed → Bool
is_puts (Puts pointers) = true
is_puts (Takes numbers) = false

-- its puts; of a transaction of takes none
abbrev pub puts_of : Listed → List Pointer
puts_of (Puts pointers) = pointers
puts_of (Takes numbers) = []

-- its takes; of a transaction of puts none
abbrev pub takes_of : Listed → List ℕ
takes_of (Puts pointers) = []
takes_of (Takes numbers) = numbers

-- this transaction has this, and each other what it had
pub record HasAt (txn : ℕ) (here : Option Open) (old new : Table) : Type 0 where
  pub here_is : open_at new txn ≡ here
  pub others : (other : ℕ) → other ≢ txn → open_at new other ≡ open_at old other

-- the item may be added to what the transaction has
abbrev pub MayAdd : Item → Option Open → Type 0
MayAdd item None = ⊥
MayAdd item (Some o) = IsOf item o.listed × (size o.listed < o.room)

-- the transaction with one more
abbrev pub added : Item → Option Open → Option Open
added item = option_map (λ (o : Open). record o { listed = with_item item o.listed })

-- the transaction with room for one more: where its room is used up, for as many again and one more
abbrev pub wider : Open → Open
wider o = if nat_lt (size o.listed) o.room then o else record o { room = 2 * size o.listed + 1 }

-- the transaction is open, with puts or with takes
abbrev pub is_open : Bool → Option Open → Bool
is_open puts None = false
is_open true (Some o) = is_puts o.listed
is_open false (Some o) = not (is_puts o.listed)

-- above this number, or any at all
abbrev pub IsAbove : Option ℕ → ℕ → Type 0
IsAbove None txn = Unit {0}
IsAbove (Some after) txn = after < txn

-- the least open transaction above, where there is one
abbrev pub IsNext : Table → Option ℕ → Option ℕ → Type 0
IsNext t after None = (txn : ℕ) → IsAbove after txn → open_at t txn ≡ None
IsNext t after (Some next) = IsAbove after next × IsSome (open_at t next) × ((txn : ℕ) → IsAbove after txn → IsSome (open_at t txn) → next ≤ txn)
