-- A take that is applied to a ring and a table.
use Rattle.std.proofs.Common.{◌⊎◌, inl, inr, ◌≡◌, ◌<◌, ◌≤◌, ◌++◌, ◌∷◌, [], ℕ, List, Option, Some, None, true, false, refl, ◌∙◌, ap, arith}
use Rattle.event_core.specs.declared.journal.Entry.{Entry}
use Rattle.event_core.specs.declared.journal.Entry.TheVariants as entries
use Rattle.open_table.specs.Tables.{IsOf, Listed, MayAdd, Open, Puts, Table, Takes, is_puts, open_at, with_item}
use Rattle.open_table.specs.declared.table.Item.TheVariants as items
use Rattle.ring_replay.specs.Indexing.{HasEntry, IsListed, IsOpened, Places, listed_or}
use Rattle.channel_replay.specs.Marks.{numbers_of}
use Rattle.channel_replay.specs.Rules.{IsTake, MayGoOn}

-- the table lists a take more as the entry does
pub take_listed : (places : Places) (number : ℕ) (o : Option Open) (entry : Option Entry) → HasEntry places o entry → is_puts (listed_or false o) ≡ false → IsListed places (with_item (items.Take number) (listed_or false o)) (entries.Takes (numbers_of entry ++ number ∷ []))
take_listed places number None None has kind = refl
take_listed places number None (Some entry) has kind = absurd has
take_listed places number (Some o) None has kind = absurd has
take_listed places number (Some o) (Some entry) has kind = by_list o.listed entry has kind
  where
    by_list : (l : Listed) (entry : Entry) → IsListed places l entry → is_puts l ≡ false → IsListed places (with_item (items.Take number) l) (entries.Takes (numbers_of (Some entry) ++ number ∷ []))
    by_list (Puts pointers) entry has kind = absurd (cc)
    by_list (Takes numbers) (entries.Puts events) has kind = absurd has
    by_list (Takes numbers) (entries.Takes others) has kind = ap (λ (l : List ℕ). l ++ number ∷ []) has

-- a take may go on where the table has no puts there and has room
pub may_take : (places : Places) (count : ℕ) (o : Option Open) (entry : Option Entry) → HasEntry places o entry → is_puts (listed_or false o) ≡ false → (o ≡ None → count < 1024) → MayGoOn count entry IsTake
may_take places count None None has kind may = may refl
may_take places count None (Some entry) has kind may = absurd has
may_take places count (Some o) None has kind may = absurd has
may_take places count (Some o) (Some entry) has kind may = by_list o.listed entry has kind
  where
    by_list : (l : Listed) (entry : Entry) → IsListed places l entry → is_puts l ≡ false → IsTake entry
    by_list (Puts pointers) entry has kind = absurd (cc)
    by_list (Takes numbers) (entries.Puts events) has kind = absurd has
    by_list (Takes numbers) (entries.Takes others) has kind = tt

-- a take may not go on where the table has puts there or is full
pub may_not_take : (places : Places) (count : ℕ) (o : Option Open) (entry : Option Entry) → HasEntry places o entry → (is_puts (listed_or false o) ≡ true) ⊎ ((o ≡ None) × (1024 ≤ count)) → MayGoOn count entry IsTake → ⊥
may_not_take places count None None has (inl kind) may = absurd (cc)
may_not_take places count None None has (inr full) may = omega (arith, full.1, may)
may_not_take places count None (Some entry) has barred may = absurd has
may_not_take places count (Some o) None has barred may = absurd has
may_not_take places count (Some o) (Some entry) has (inr full) may = absurd (let e : Some o ≡ None = full.0 in cc)
may_not_take places count (Some o) (Some entry) has (inl kind) may = by_list o.listed entry has kind may
  where
    by_list : (l : Listed) (entry : Entry) → IsListed places l entry → is_puts l ≡ true → IsTake entry → ⊥
    by_list (Takes numbers) entry has kind is = absurd (cc)
    by_list (Puts pointers) (entries.Takes numbers) has kind is = absurd has
    by_list (Puts pointers) (entries.Puts events) has kind is = absurd is

-- an opened transaction of takes may be given one more take
pub may_add_take : (txn number : ℕ) (old mid : Table) → IsOpened false txn old mid → MayAdd (items.Take number) (open_at mid txn)
may_add_take txn number old mid opens = rw opens.here.here_is (by_list opens.opened.listed (ap is_puts opens.listed ∙ opens.kind), opens.room)
  where
    by_list : (l : Listed) → is_puts l ≡ false → IsOf (items.Take number) l
    by_list (Takes numbers) is = tt
    by_list (Puts pointers) is = absurd (cc)
