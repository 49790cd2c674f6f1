-- How a session of lines ended.
use Rattle.std.specs.Prelude.{◌≡◌, ◌⊎◌, ℕ, ◌≤◌, true, List, ◌++◌, length, take, All, Option}
use Rattle.std.specs.Io.KnownBytes.{Appends, Consumes}
use Rattle.flume_host.specs.Causes.{Rose}
use Rattle.netcat_source.specs.Lines.{IsLine, IsEnd, IsCut, LinesEnd, TooLong, joined}
use Rattle.netcat_source.specs.Replies.{replies}
use Rattle.line_session.specs.Handled.{Handled, lines_of, verdicts_of}
use Rattle.agent_commands.specs.Handled.{GoesOn}

-- Every line of what was read was handled, and so was its end: all of their replies were written.
pub record Served (max : ℕ) (Size : ℕ → Type 0) (end : LinesEnd) (input left output took : Option (List ℕ)) (Stands : List Handled → Type 0) : Type 0 where
  pub bytes : List ℕ
  pub read : Consumes input left bytes
  pub size : Size (length bytes)
  pub done : List Handled
  pub cut : IsCut max bytes (lines_of done) end
  pub going : All GoesOn (verdicts_of done)
  pub wrote : Appends output took (replies true (verdicts_of done) end)
  pub stands : Stands done

-- The first lines of what was read were handled, and a front of their replies was written: all of them, unless the
-- count of faults that goes from `before` to `now` rose.
pub record Stopped (max : ℕ) (input left output took : Option (List ℕ)) (before now : ℕ) (Stands : List Handled → Type 0) : Type 0 where
  pub bytes : List ℕ
  pub read : Consumes input left bytes
  pub done : List Handled
  pub rest : List ℕ
  pub first : bytes ≡ joined (lines_of done) ++ rest
  pub each : All (IsLine max) (lines_of done)
  pub end : LinesEnd
  pub ends : end ≡ TooLong → IsEnd max TooLong rest × All GoesOn (verdicts_of done)
  pub sent : ℕ
  pub wrote : Appends output took (take sent (replies true (verdicts_of done) end))
  pub whole : (length (replies true (verdicts_of done) end) ≤ sent) ⊎ Rose before now
  pub stands : Stands done
