-- A channel on a disk that has made no call.
use Rattle.std.specs.Prelude.{ℕ, [], Option}
use Rattle.flume_host.specs.Told.{Told}
use Rattle.channel_face.specs.History.{Opening}
use Rattle.file_channel.specs.Stands.{FileState, StandsOver}

-- it stands for this opening and no calls
abbrev pub IsOpenedAt : Option Told → ℕ → FileState → Opening → Type 0
IsOpenedAt told faults c start = StandsOver told faults c start []
