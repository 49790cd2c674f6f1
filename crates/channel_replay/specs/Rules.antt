-- Which record may stand where in a log.
use Rattle.std.specs.Prelude.{◌≡◌, ◌<◌, ◌≤◌, ◌+◌, ◌-◌, ◌^◌, ℕ, length, Option, Some, None, IsSome, IsSomeAnd}
use Rattle.event_core.specs.Journal.{Base}
use Rattle.event_core.specs.declared.journal.Entry.{Entry}
use Rattle.event_core.specs.declared.journal.Entry.TheVariants.{Puts, Takes}
use Rattle.record_form.specs.declared.record.Rec.{Rec}
use Rattle.record_form.specs.declared.record.Rec.TheVariants.{Put, Take, Rollback, CommitPut, CommitTake, End}
use Rattle.channel_replay.specs.Marks.{Past, opened, open_txns, next_number, IsLeft, IsHeld}

-- numbers of transactions go from 1 to 2 ^ 64 - 2
abbrev pub IsTxn : ℕ → Type 0
IsTxn txn = (1 ≤ txn) × (txn ≤ 2 ^ 64 - 2)

abbrev pub IsPut : Entry → Type 0
IsPut (Puts events) = Unit {0}
IsPut (Takes numbers) = ⊥

abbrev pub IsTake : Entry → Type 0
IsTake (Puts events) = ⊥
IsTake (Takes numbers) = Unit {0}

abbrev pub IsPutOf : ℕ → Entry → Type 0
IsPutOf count (Puts events) = length events ≡ count
IsPutOf count (Takes numbers) = ⊥

abbrev pub IsTakeOf : ℕ → Entry → Type 0
IsTakeOf count (Puts events) = ⊥
IsTakeOf count (Takes numbers) = length numbers ≡ count

-- a transaction has an entry of which P holds, or it has none and may begin, as fewer than 1,024 are open
abbrev pub MayGoOn : ℕ → Option Entry → (Entry → Type 0) → Type 0
MayGoOn count None P = count < 1024
MayGoOn count (Some entry) P = P entry

-- the rule of each record, after these marks
abbrev pub IsLegal : Base → Past → Rec → Type 0
IsLegal base past (Put txn event) = IsTxn txn × MayGoOn (length (open_txns past)) (opened txn past) IsPut
IsLegal base past (Take txn number) = IsTxn txn × MayGoOn (length (open_txns past)) (opened txn past) IsTake × IsLeft base past number × (IsHeld past number → ⊥)
IsLegal base past (Rollback txn) = IsTxn txn × IsSome (opened txn past)
IsLegal base past (CommitPut txn first count) =
    IsTxn txn × IsSomeAnd (opened txn past) (IsPutOf count) × (first ≡ next_number base past) × (first + count ≤ 2 ^ 64 - 1)
IsLegal base past (CommitTake txn count) = IsTxn txn × IsSomeAnd (opened txn past) (IsTakeOf count)
IsLegal base past (End count) = ⊥
