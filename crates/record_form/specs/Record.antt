-- The records of the log and their bytes.
use Rattle.std.specs.Prelude.{◌≡◌, ◌<◌, ◌≤◌, ◌^◌, ◌+◌, ℕ, List, ◌∷◌, ◌++◌, All}
use Rattle.event_core.specs.Numbers.{u32_bytes, u64_bytes}
use Rattle.event_core.specs.Content.{AreHeaders, event_bytes, size}
use Rattle.record_form.specs.declared.record.Rec.{Rec}
use Rattle.record_form.specs.declared.record.Rec.TheVariants.{Put, Take, Rollback, CommitPut, CommitTake, End}

-- the kind byte
abbrev pub record_kind : Rec → ℕ
record_kind (Put txn event) = 1
record_kind (Take txn number) = 2
record_kind (Rollback txn) = 3
record_kind (CommitPut txn first count) = 4
record_kind (CommitTake txn count) = 5
record_kind (End count) = 6

-- the bytes of a record: its kind and its fields
abbrev pub spelling : Rec → List ℕ
spelling (Put txn event) = 1 ∷ (u64_bytes txn ++ (u32_bytes (size event) ++ event_bytes event))
spelling (Take txn number) = 2 ∷ (u64_bytes txn ++ u64_bytes number)
spelling (Rollback txn) = 3 ∷ u64_bytes txn
spelling (CommitPut txn first count) = 4 ∷ (u64_bytes txn ++ (u64_bytes first ++ u32_bytes count))
spelling (CommitTake txn count) = 5 ∷ (u64_bytes txn ++ u32_bytes count)
spelling (End count) = 6 ∷ u32_bytes count

-- how many bytes these are
abbrev pub record_length : Rec → ℕ
record_length (Put txn event) = size event + 13
record_length (Take txn number) = 17
record_length (Rollback txn) = 9
record_length (CommitPut txn first count) = 21
record_length (CommitTake txn count) = 13
record_length (End count) = 5

-- an event in a PUT has a greatest size, and a count is at least 1
abbrev pub IsWithinLimits : Rec → Type 0
IsWithinLimits (Put txn event) = size event ≤ 1_048_576
IsWithinLimits (Take txn number) = Unit {0}
IsWithinLimits (Rollback txn) = Unit {0}
IsWithinLimits (CommitPut txn first count) = 1 ≤ count
IsWithinLimits (CommitTake txn count) = 1 ≤ count
IsWithinLimits (End count) = 1 ≤ count

-- numbers fit their fields, headers are texts in order, and a body is bytes
abbrev pub HasFields : Rec → Type 0
HasFields (Put txn event) = (txn < 2 ^ 64) × AreHeaders event.headers × All (λ b. b < 256) event.body
HasFields (Take txn number) = (txn < 2 ^ 64) × (number < 2 ^ 64)
HasFields (Rollback txn) = txn < 2 ^ 64
HasFields (CommitPut txn first count) = (txn < 2 ^ 64) × (first < 2 ^ 64) × (count < 2 ^ 32)
HasFields (CommitTake txn count) = (txn < 2 ^ 64) × (count < 2 ^ 32)
HasFields (End count) = count < 2 ^ 32

-- The bytes spell the record.
pub record Spells (bytes : List ℕ) (rec : Rec) : Type 0 where
  pub fields : HasFields rec
  pub limits : IsWithinLimits rec
  pub is : bytes ≡ spelling rec
