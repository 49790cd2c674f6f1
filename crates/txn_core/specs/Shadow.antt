-- A journal of what a machine settled, and copies of what it has open and staged.
use Rattle.std.specs.Prelude.{◌≡◌, ◌≤◌, ◌+◌, ℕ, List, [], ◌∷◌, ◌++◌, length, drop, Option, Some, None}
use Rattle.event_core.specs.declared.journal.Entry.{Entry}
use Rattle.event_core.specs.declared.journal.Entry.TheVariants.{Puts, Takes}
use Rattle.channel_face.specs.Machine.{State, Call}
use Rattle.channel_face.specs.History.{Opening, Step, opening, journal, kept_by}
use Rattle.txn_core.specs.Counted.{Counted, Makes, StandsAs}

-- what staging a transaction adds to what is staged
abbrev pub staged_more : Option Entry → List Entry
staged_more None = []
staged_more (Some (Puts [])) = []
staged_more (Some (Takes [])) = []
staged_more (Some entry) = entry ∷ []

-- A state with its counts, and the journal so far.
pub record Journaled : Type 0 where
  pub counted : Counted
  pub journal : List Entry

-- the copies are those of the state
pub record IsShadow (s : State) (copies : List (ℕ × Entry)) (all : List Entry) (settled room : ℕ) : Type 0 where
  pub opened : copies ≡ s.opened
  pub staged : drop settled all ≡ s.staged
  pub within : settled ≤ length all
  pub fits : length all + length copies ≤ room
  pub few : length copies ≤ 1024

-- The machine may give this call this reply, and its counts and its journal go on with it.
pub record Journals (old : Journaled) (call : Call) (new : Journaled) : Type 0 where
  pub makes : Makes old.counted call new.counted
  pub journal : new.journal ≡ old.journal ++ kept_by old.counted.state call

abbrev pub StandsWith : Journaled → Opening → List Step → Type 0
StandsWith j start h = StandsAs j.counted start h × (journal (opening start) h ≡ j.journal)
