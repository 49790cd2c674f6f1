-- What is read of a folder's log from a place on.
use Rattle.std.specs.Prelude.{◌+◌, ◌^◌, ℕ, List, Option}
use Rattle.flume_host.specs.Told.{Told, WhereTold}
use Rattle.channel_log.specs.Reader.{HasFile}
use Rattle.channel_replay.specs.declared.line.Line.{Line}
use Rattle.channel_replay.specs.Recover.{AreLogs, LogFile}
use Rattle.checkpoint.specs.declared.place.Place.{Place}
use Rattle.checkpoint_recovery.specs.Reading.{HasFrom, LinesFrom}

-- P of the lines that a file has from a commit byte on
abbrev pub WhereFrom : Option Told → ℕ → ℕ → (List Line → Type 0) → Type 0
WhereFrom told file at P = (bytes : List ℕ) (own : List Line) → HasFile told file bytes → HasFrom file bytes at own → P own

-- P of the log files after a number
abbrev pub WhereBehind : Option Told → ℕ → (List LogFile → Type 0) → Type 0
WhereBehind told file P = WhereTold told (λ t. (logs : List LogFile) → AreLogs t.reads (file + 1) (2 ^ 32) logs → P logs)

-- P of the lines of a folder from a place on
abbrev pub WhereLines : Option Told → Place → (List Line → Type 0) → Type 0
WhereLines told place P = WhereTold told (λ t. (found : List Line) → LinesFrom t.reads place found → P found)
