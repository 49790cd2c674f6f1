-- What a reopened channel leaves of one work or attempt.
use Rattle.std.specs.Prelude.{ℕ, Option, Some, None, ◌==◌, if◌then◌else◌}
use Rattle.world_laws.specs.World.{Work, Attempt}
use Rattle.world_laws.specs.Steps.{has_from}

-- the work, unless it has an entry of the channel at this place or after it
abbrev pub unless_from : ℕ → ℕ → Option Work → Option Work
unless_from channel place None = None
unless_from channel place (Some w) = if has_from channel place w.entries then None else Some w

-- the attempt, unless it took from the channel
abbrev pub unless_of : ℕ → Option Attempt → Option Attempt
unless_of channel None = None
unless_of channel (Some a) = if a.channel == channel then None else Some a
