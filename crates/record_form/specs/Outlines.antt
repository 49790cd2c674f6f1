-- What a record says, with the length of its event in place of the event.
use Rattle.std.specs.Prelude.{◌≡◌, ℕ, List}
use Rattle.event_core.specs.Content.{size}
use Rattle.record_form.specs.declared.record.Outline.{Outline}
use Rattle.record_form.specs.declared.record.Outline.TheVariants as outlines
use Rattle.record_form.specs.declared.record.Rec.{Rec}
use Rattle.record_form.specs.declared.record.Rec.TheVariants.{Put, Take, Rollback, CommitPut, CommitTake, End}
use Rattle.record_form.specs.Grammar.{Complete, outcome_of}

-- the outline of a record
abbrev pub outline_of : Rec → Outline
outline_of (Put txn event) = outlines.Put txn (size event)
outline_of (Take txn number) = outlines.Take txn number
outline_of (Rollback txn) = outlines.Rollback txn
outline_of (CommitPut txn first count) = outlines.CommitPut txn first count
outline_of (CommitTake txn count) = outlines.CommitTake txn count
outline_of (End count) = outlines.End count

-- of whichever record the bytes begin with, this is the outline, and there it ends
abbrev pub IsOutlined : List ℕ → Outline → ℕ → Type 0
IsOutlined bytes outline end = (rec : Rec) (stop : ℕ) → outcome_of bytes ≡ Complete rec stop → (outline ≡ outline_of rec) × (end ≡ stop)

-- some record has it
abbrev pub IsSomeOutline : Outline → Type 0
IsSomeOutline outline = (rec : Rec) × (outline ≡ outline_of rec)
