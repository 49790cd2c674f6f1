-- The parts of a delivery.
use Rattle.std.specs.Prelude.{◌≡◌, ℕ, List, Option, Some, None, true, Result, Ok, Err}
use Rattle.flume_host.specs.Rolled.{Rolled, IsNewName}
use Rattle.roll_sink.specs.declared.sink.RollRefused.{RollRefused}
use Rattle.roll_sink.specs.Rolls.{grow, with_file}

-- a file was begun
pub record NewFile (name : List ℕ) (old new : Rolled) : Type 0 where
  pub fresh : IsNewName old.files name
  pub files : new.files ≡ with_file true name old.files

-- a begin failed
pub record NoFile (old new : Rolled) : Type 0 where
  pub failed : new.failed ≡ true
  pub files : new.files ≡ old.files

-- these bytes were written and handed on
pub record HandedOn (text : List ℕ) (old new : Rolled) : Type 0 where
  pub files : new.files ≡ grow text old.files
  pub flushed : new.flushed ≡ true

abbrev pub begun_at : Result (Unit {0}) RollRefused → ℕ → Option ℕ
begun_at (Ok done) moment = Some moment
begun_at (Err refused) moment = None

abbrev pub kept_at : Result (Unit {0}) RollRefused → Option ℕ → Option ℕ
kept_at (Ok done) begun = begun
kept_at (Err refused) begun = None
