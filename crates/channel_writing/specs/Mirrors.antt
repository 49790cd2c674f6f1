-- How the records of a log mirror a channel's state.
use Rattle.std.specs.Prelude.{◌≡◌, ◌<◌, ◌≤◌, ◌+◌, ◌-◌, ◌^◌, ℕ, List, [], ◌∷◌, ◌++◌, length, Option, Some, None, false}
use Rattle.std.specs.List.{AllByRecursion}
use Rattle.event_core.specs.Journal.{Base, IsNotEmpty, after_journal, is_among, taken_numbers}
use Rattle.event_core.specs.declared.journal.Entry.{Entry}
use Rattle.record_form.specs.declared.record.Rec.{Rec}
use Rattle.channel_face.specs.Machine.{State, base_of, entry_of}
use Rattle.channel_replay.specs.Marks.{Past, Applied, opened, open_txns, journal, next_txn, next_number}
use Rattle.channel_replay.specs.Open.{keys}
use Rattle.channel_replay.specs.Rules.{IsLegal}
use Rattle.channel_replay.specs.StartLaws.{done_of}
use Rattle.channel_replay.specs.Start.{AreApart, Start}

-- the marks after these records
abbrev pub applied : Past → List Rec → Past
applied past [] = past
applied past (rec ∷ records) = applied (Applied rec ∷ past) records

-- each of the records is legal at its place
abbrev pub AreLegal : Base → Past → List Rec → Type 0
AreLegal start past [] = Unit {0}
AreLegal start past (rec ∷ records) = IsLegal start past rec × AreLegal start (Applied rec ∷ past) records

abbrev pub one_if_done : Option Entry → ℕ
one_if_done None = 0
one_if_done (Some entry) = 1

-- how many of the open transactions did something
abbrev pub busy : List (ℕ × Entry) → ℕ
busy [] = 0
busy (o ∷ opened) = one_if_done (done_of (Some o.1)) + busy opened

-- A start has what a state has: what is left with the next numbers, and each open transaction that did something, with just that.
pub record IsStartOf (s : State) (start : Start) : Type 0 where
  pub base : start.base ≡ base_of s
  pub txn : start.txn ≡ s.txn
  pub each : (n : ℕ) → entry_of n start.opened ≡ done_of (entry_of n s.opened)
  pub as_many : length start.opened ≡ busy s.opened
  pub apart : AreApart (keys start.opened)
  pub some : AllByRecursion (λ o. IsNotEmpty o.1) start.opened
  pub below : AllByRecursion (λ o. o.0 < s.txn) start.opened

-- After a start, these marks and these records, which no flush has settled, a log has what the state has: what is settled, what is staged, and what the open transactions did. The records are legal.
pub record Mirrors (start : Base) (s : State) (settled : Past) (records : List Rec) : Type 0 where
  pub base : base_of s ≡ after_journal start (journal settled)
  pub earlier : (n : ℕ) → next_number start settled ≤ n → is_among (taken_numbers (journal settled)) n ≡ false
  pub staged : journal (applied settled records) ≡ journal settled ++ s.staged
  pub each : (n : ℕ) → opened n (applied settled records) ≡ done_of (entry_of n s.opened)
  pub as_many : length (open_txns (applied settled records)) ≡ busy s.opened
  pub next : next_txn (applied settled records) ≤ s.txn
  pub legal : AreLegal start settled records
  -- numbers of transactions fit, and none is used twice
  pub low : AllByRecursion (λ o. 1 ≤ o.0) s.opened
  pub below : AllByRecursion (λ o. o.0 < s.txn) s.opened
  pub apart : AreApart (keys s.opened)
  pub high : (1 ≤ s.txn) × (s.txn ≤ 2 ^ 64 - 1)
  pub few : length s.opened ≤ 1024
