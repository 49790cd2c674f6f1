-- What a crash leaves of a folder whose channel was shared.
use Rattle.std.specs.Prelude.{ℕ, List, Option}
use Rattle.flume_host.specs.Told.{EachMoment, Told, WhereTold}
use Rattle.channel_face.specs.History.{Opening, Step}
use Rattle.channel_writing.specs.Stands.{MayFind, until}
use Rattle.file_channel.specs.Stands.{FileState, StandsOver}
use Rattle.shared_channel.specs.Counting.{StandsCounting}

-- Where the disk shows its contents, whatever a crash leaves of the folder, at each moment since the opening settled it, opens to something that the calls up to that moment may leave.
abbrev pub LeavesAtEach : Option Told → Opening → List Step → Type 0
LeavesAtEach told start h = WhereTold told (EachMoment start.from (λ m image. MayFind start (until m h) image))

-- So it is with the counted calls of a file channel that was shared: the others, rollbacks of stale tokens, changed nothing.
abbrev pub CountedCallsLeave : Type 0
CountedCallsLeave =
    (told : Option Told) (faults : ℕ) (c : FileState) (start : Opening) (h : List Step)
    → StandsCounting (λ x o all. StandsOver told faults x o all) c start h → LeavesAtEach told start h
