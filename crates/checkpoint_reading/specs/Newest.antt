-- A folder's newest checkpoint, as it was read.
use Rattle.std.specs.Prelude.{ℕ, List, Option, Some, None}
use Rattle.flume_host.specs.Folder.{Files}
use Rattle.event_core.specs.Content.{Content}
use Rattle.event_core.specs.declared.journal.Entry.{Entry}
use Rattle.checkpoint.specs.declared.check.Check.{Check}
use Rattle.checkpoint.specs.Newest.{IsNewest}
use Rattle.checkpoint.specs.Stands.{IsOrdered, Keeps, Stands}
use Rattle.checkpoint.specs.Text.{CheckText}
use Rattle.checkpoint_reading.specs.Opens.{AreEvents}

-- Ring and table are those of a text whose numbers are in order and whose pointers have lengths of events.
pub record IsRead (check : Check) : Type 0 where
  pub c : CheckText
  pub keeps : Keeps check c
  pub ordered : IsOrdered c
  pub events : AreEvents c

-- in the folder it stands for these events, of which those are open
pub record IsOfFolder (files : Files) (check : Check) : Type 0 where
  pub left : List (ℕ × Content)
  pub opened : List (ℕ × Entry)
  pub stands : Stands files check left opened

-- it is the folder's newest checkpoint and right for the folder, or there is none
abbrev pub IsNewestOf : Files → Option Check → Type 0
IsNewestOf files None = IsNewest files None
IsNewestOf files (Some check) = IsNewest files (Some check.number) × IsOfFolder files check
