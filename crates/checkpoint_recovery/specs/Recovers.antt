-- What a folder recovers to, from its newest checkpoint on.
use Rattle.std.specs.Prelude.{◌≡◌, ℕ, List, ◌∷◌, Some, None}
use Rattle.flume_host.specs.Folder.{Files}
use Rattle.flume_host.specs.declared.names.FileName.TheVariants.{Check}
use Rattle.event_core.specs.Journal.{Base}
use Rattle.channel_replay.specs.declared.line.Line.{Line}
use Rattle.channel_replay.specs.Recover.{IsBadFrom, StandsFrom, empty_start}
use Rattle.channel_replay.specs.Start.{Start}
use Rattle.checkpoint.specs.Newest.{IsNewest}
use Rattle.checkpoint.specs.Right.{IsRight}
use Rattle.checkpoint.specs.Text.{CheckText, check_bytes}
use Rattle.checkpoint_recovery.specs.Reading.{AllLines, LinesFrom}

-- A checkpoint that is right for a folder stands for this start: the events at its pointers, what it has open, and its next numbers.
pub record Means (files : Files) (c : CheckText) (start : Start) : Type 0 where
  pub right : IsRight files c start.base.items start.opened
  pub number : start.base.first ≡ c.next.number
  pub txn : start.txn ≡ c.next.txn

-- The file of this number has an open commit byte and this checkpoint, with nothing after it, and it stands for this start.
pub record IsCheck (files : Files) (number : ℕ) (c : CheckText) (start : Start) : Type 0 where
  pub spelled : files (Check number) ≡ Some (1 ∷ check_bytes c)
  pub means : Means files c start

-- A folder is replayed from this start, after which it has these lines: that of its newest checkpoint, or from the front where there is none.
pub data BeginsAt (files : Files) (start : Start) (found : List Line) : Type 0 where
  Front : IsNewest files None → start ≡ empty_start → AllLines files found → BeginsAt files start found
  From : (number : ℕ) → (c : CheckText) → IsNewest files (Some number) → IsCheck files number c start → LinesFrom files c.place found → BeginsAt files start found

-- a folder recovers to this list with its next number, and to this next transaction number
pub record RecoversTo (files : Files) (left : Base) (txn : ℕ) : Type 0 where
  pub start : Start
  pub found : List Line
  pub begins : BeginsAt files start found
  pub stands : StandsFrom start found left txn

-- the first fault of its log has this file and offset, where its newest checkpoint is right
pub record IsBadLogFrom (files : Files) (file at : ℕ) : Type 0 where
  pub start : Start
  pub found : List Line
  pub begins : BeginsAt files start found
  pub bad : IsBadFrom start found file at
