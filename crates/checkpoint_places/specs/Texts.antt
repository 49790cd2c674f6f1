-- The text of a checkpoint of places that look like a state, and the start for which it stands.
use Rattle.std.specs.Prelude.{ℕ, List, [], ◌∷◌, ◌++◌, map}
use Rattle.event_core.specs.declared.journal.Entry.{Entry}
use Rattle.event_core.specs.declared.journal.Entry.TheVariants.{Puts, Takes}
use Rattle.channel_face.specs.Machine.{State, base_of}
use Rattle.channel_places.specs.Looks.{Places}
use Rattle.channel_replay.specs.Start.{Start}
use Rattle.checkpoint.specs.declared.place.Place.{Place}
use Rattle.checkpoint.specs.Says.{entry_of as listed, live_at, puts_at, takes_at}
use Rattle.checkpoint.specs.Text.{CheckText}

-- what each open transaction has, but for those that have nothing
abbrev pub listed_by : {A : Type 0} → (ℕ → List A) → List (ℕ × Entry) → List (ℕ × List A)
listed_by of [] = []
listed_by of (o ∷ opened) = listed o.0 (of o.0) ++ listed_by of opened

-- the text of places at a place of the log, where the transactions of this state are open
abbrev pub text_of : Place → Places → State → CheckText
text_of place p s = record {
  place = place;
  next = record { number = p.numbers.first; txn = p.numbers.txn };
  live = map live_at p.live;
  puts = listed_by (puts_at p.opened) s.opened;
  takes = listed_by (takes_at p.opened) s.opened;
}

-- the open transactions that put something
abbrev pub puts_done : List (ℕ × Entry) → List (ℕ × Entry)
puts_done [] = []
puts_done ((txn, Puts []) ∷ opened) = puts_done opened
puts_done ((txn, Puts (event ∷ events)) ∷ opened) = (txn, Puts (event ∷ events)) ∷ puts_done opened
puts_done ((txn, Takes numbers) ∷ opened) = puts_done opened

-- those that took something
abbrev pub takes_done : List (ℕ × Entry) → List (ℕ × Entry)
takes_done [] = []
takes_done ((txn, Puts events) ∷ opened) = takes_done opened
takes_done ((txn, Takes []) ∷ opened) = takes_done opened
takes_done ((txn, Takes (number ∷ numbers)) ∷ opened) = (txn, Takes (number ∷ numbers)) ∷ takes_done opened

-- what the text stands for: the events that are left, the open puts and then the open takes, and the next numbers
abbrev pub started : State → Start
started s = record { base = base_of s; opened = puts_done s.opened ++ takes_done s.opened; txn = s.txn }
