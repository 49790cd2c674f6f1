-- What is true of the lists of each channel: numbers fit, there is room for what needs no memory, and each item before some place is held.
use Rattle.std.specs.Prelude.{◌≡◌, ◌<◌, ◌≤◌, ◌+◌, ◌^◌, ℕ, List, [], ◌∷◌, ◌++◌, length, take, if◌then◌else◌, Option, Some, None}
use Rattle.event_core.specs.Content.{Content}
use Rattle.event_core.specs.Journal.{put_events, taken_numbers, without}
use Rattle.event_core.specs.declared.journal.Entry.{Entry}
use Rattle.event_core.specs.declared.journal.Entry.TheVariants.{Puts, Takes}
use Rattle.channel_face.specs.Machine.{State, entries, next_number, count, is_none_staged}
use Rattle.channel_face.specs.declared.replies.Kind.TheVariants.{File as OnFile, Memory as InMemory}

abbrev pub size_of_entry : Entry → ℕ
size_of_entry (Puts events) = length events
size_of_entry (Takes numbers) = length numbers

abbrev pub puts_in : Entry → List Content
puts_in (Puts events) = events
puts_in (Takes numbers) = []

abbrev pub takes_in : Entry → List ℕ
takes_in (Puts events) = []
takes_in (Takes numbers) = numbers

abbrev pub without_puts : Entry → Entry
without_puts (Puts events) = Puts []
without_puts (Takes numbers) = Takes numbers

-- no transaction has more than this
abbrev pub NoneLonger : ℕ → List (ℕ × Entry) → Type 0
NoneLonger most [] = Unit {0}
NoneLonger most (o ∷ opened) = (size_of_entry o.1 ≤ most) × NoneLonger most opened

abbrev pub one_if_staged : List Entry → ℕ
one_if_staged staged = if is_none_staged staged then 0 else 1

-- the numbers that open and staged transactions took
abbrev pub held_numbers : List (ℕ × Entry) → List Entry → List ℕ
held_numbers opened staged = taken_numbers (entries opened) ++ taken_numbers staged

-- a transaction took each of these items
abbrev pub AreHeld : List (ℕ × Entry) → List Entry → List (ℕ × Content) → Type 0
AreHeld opened staged items = without (held_numbers opened staged) items ≡ []

pub record IsSound (s : State) (open_puts staged_puts item_room staged_room free_from : ℕ) : Type 0 where
  pub open_puts_are : open_puts ≡ length (put_events (entries s.opened))
  pub staged_puts_are : staged_puts ≡ length (put_events s.staged)
  -- a frame that was flushed had a transaction of its own
  pub frames : s.frame + one_if_staged s.staged + length s.opened ≤ s.txn
  pub numbers : next_number s < 2 ^ 64
  pub begun : 1 ≤ s.txn
  pub lists : NoneLonger s.rules.limits.txn_capacity s.opened
  pub events : length s.items + open_puts + staged_puts ≤ item_room
  pub places : length s.staged + length s.opened ≤ staged_room
  pub within : s.rules.kind ≡ OnFile → count s ≤ s.rules.limits.capacity
  pub within_memory : s.rules.kind ≡ InMemory → length s.items + staged_puts ≤ s.rules.limits.capacity
  pub opened_few : length s.opened ≤ 1024
  -- a transaction took each item before this place
  pub front : AreHeld s.opened s.staged (take free_from s.items)

-- what a transaction did may be staged
pub record MayStage (s : State) (entry : Entry) : Type 0 where
  pub numbers : next_number s + length (puts_in entry) < 2 ^ 64
  pub memory : s.rules.kind ≡ InMemory → length s.items + length (put_events s.staged) + length (puts_in entry) ≤ s.rules.limits.capacity

abbrev pub first_of : {A : Type 0} → List A → Option A
first_of [] = None
first_of (x ∷ xs) = Some x

abbrev pub first_number : List (ℕ × Content) → Option ℕ
first_number [] = None
first_number (item ∷ items) = Some item.0
