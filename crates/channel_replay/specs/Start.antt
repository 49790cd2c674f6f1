-- Where a replay starts: at the front of a log, or after what a checkpoint stands for.
use Rattle.std.specs.Prelude.{◌≡◌, ◌≤◌, ℕ, List, [], ◌∷◌, false}
use Rattle.std.specs.List.{AllByRecursion}
use Rattle.event_core.specs.Content.{Content}
use Rattle.event_core.specs.Journal.{Base, IsBase, IsNotEmpty, is_among}
use Rattle.event_core.specs.declared.journal.Entry.{Entry}
use Rattle.event_core.specs.declared.journal.Entry.TheVariants.{Puts, Takes}
use Rattle.record_form.specs.declared.record.Rec.TheVariants.{Put, Take}
use Rattle.channel_face.specs.Machine.{entry_of}
use Rattle.channel_replay.specs.Marks.{Applied, Past, numbers_of}
use Rattle.channel_replay.specs.Open.{keys}

-- What is left at a place, with the next number; what transactions have open there; and the next transaction number.
pub record Start : Type 0 where
  pub base : Base
  pub opened : List (ℕ × Entry)
  pub txn : ℕ

-- the marks of a transaction's puts, after others
abbrev pub put_marks : ℕ → List Content → Past → Past
put_marks txn [] past = past
put_marks txn (event ∷ events) past = put_marks txn events (Applied (Put txn event) ∷ past)

-- and of its takes
abbrev pub take_marks : ℕ → List ℕ → Past → Past
take_marks txn [] past = past
take_marks txn (number ∷ numbers) past = take_marks txn numbers (Applied (Take txn number) ∷ past)

abbrev pub entry_marks : ℕ → Entry → Past → Past
entry_marks txn (Puts events) past = put_marks txn events past
entry_marks txn (Takes numbers) past = take_marks txn numbers past

abbrev pub open_marks : List (ℕ × Entry) → Past → Past
open_marks [] past = past
open_marks (o ∷ opened) past = open_marks opened (entry_marks o.0 o.1 past)

-- what is open at a start counts as the records by which it was begun, as if they stood before its place
abbrev pub start_past : Start → Past
start_past s = open_marks s.opened []

-- no number stands twice
abbrev pub AreApart : List ℕ → Type 0
AreApart [] = Unit {0}
AreApart (x ∷ xs) = (is_among xs x ≡ false) × AreApart xs

-- What a right checkpoint stands for: numbers rise, each open transaction has done something, and takes are of earlier numbers.
pub record IsStart (s : Start) : Type 0 where
  pub base : IsBase s.base
  pub apart : AreApart (keys s.opened)
  pub some : AllByRecursion (λ o. IsNotEmpty o.1) s.opened
  pub earlier : (t n : ℕ) → s.base.first ≤ n → is_among (numbers_of (entry_of t s.opened)) n ≡ false
