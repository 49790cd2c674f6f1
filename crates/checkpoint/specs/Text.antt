-- What a checkpoint says, and its bytes.
use Rattle.std.specs.Prelude.{◌+◌, ◌<◌, ◌≤◌, ◌^◌, ℕ, List, [], ◌∷◌, ◌++◌, length, codes, flat_map}
use Rattle.std.specs.List.{AllByRecursion}
use Rattle.event_core.specs.Numbers.{u32_bytes, u64_bytes}
use Rattle.record_form.specs.declared.record.Pointer.{Pointer}
use Rattle.checkpoint.specs.declared.place.Next.{Next}
use Rattle.checkpoint.specs.declared.place.Place.{Place}

-- What a checkpoint says: the place after which the log goes on, the next numbers, where the events that are left stand, and what is open, each list in
-- the order of its numbers.
pub record CheckText : Type 0 where
  pub place : Place
  pub next : Next
  pub live : List (ℕ × Pointer)
  pub puts : List (ℕ × List Pointer)
  pub takes : List (ℕ × List ℕ)

abbrev pub pointer_bytes : Pointer → List ℕ
pointer_bytes p = u32_bytes p.file ++ (u64_bytes p.at ++ u32_bytes p.length)

abbrev pub live_bytes : ℕ × Pointer → List ℕ
live_bytes l = u64_bytes l.0 ++ pointer_bytes l.1

-- an open transaction: its number, how many it lists, and these
abbrev pub entry_bytes : {A : Type 0} → (A → List ℕ) → ℕ × List A → List ℕ
entry_bytes item_bytes o = u64_bytes o.0 ++ (u32_bytes (length o.1) ++ flat_map item_bytes o.1)

-- a list: how many, and each
abbrev pub counted : {A : Type 0} → (A → List ℕ) → List A → List ℕ
counted item_bytes items = u32_bytes (length items) ++ flat_map item_bytes items

abbrev pub head_bytes : Place → Next → List ℕ
head_bytes place next = codes "FLUMECHK" ++ (u32_bytes 1 ++ (u32_bytes place.file ++ (u64_bytes place.at ++ (u64_bytes next.number ++ u64_bytes next.txn))))

-- the bytes after the commit byte
unfoldable pub check_bytes : CheckText → List ℕ
check_bytes c =
    head_bytes c.place c.next ++ (counted live_bytes c.live ++ (counted (entry_bytes pointer_bytes) c.puts ++ counted (entry_bytes u64_bytes) c.takes))

-- numbers rise from the first one on, and stay below the second
abbrev pub Rise : {A : Type 0} → ℕ → ℕ → List (ℕ × A) → Type 0
Rise low high [] = Unit {0}
Rise low high (x ∷ xs) = (low ≤ x.0) × (x.0 < high) × Rise (x.0 + 1) high xs

-- there are so few, and each lists so few, that 32 bits tell how many
abbrev pub FitCounts : {A : Type 0} → List (ℕ × List A) → Type 0
FitCounts listed = (length listed < 2 ^ 32) × AllByRecursion (λ o. length o.1 < 2 ^ 32) listed
