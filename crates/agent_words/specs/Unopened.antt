-- Why a run ended whose channel was not opened.
use Rattle.std.specs.Prelude.{ℕ}
use Rattle.std.specs.declared.alloc.Global.{Global}
use Rattle.std.specs.declared.string.String.{String}
use Rattle.channel_face.specs.declared.replies.OpenCause.{OpenCause}
use Rattle.channel_face.specs.declared.replies.OpenCause.TheVariants as causes
use Rattle.agent_words.specs.declared.error.RunError.{RunError}
use Rattle.agent_words.specs.declared.error.RunError.TheVariants.{Fault, BadCheckpoint, BadLog, OverCapacity, Spent, NoMemory}

-- of a channel in this folder and of this capacity, for this cause
abbrev pub unopened : String Global → ℕ → OpenCause → RunError
unopened dir capacity causes.DiskFault = Fault
unopened dir capacity (causes.BadCheck file at) = BadCheckpoint dir file at
unopened dir capacity (causes.BadLog file at) = BadLog dir file at
unopened dir capacity (causes.OverCapacity count) = OverCapacity dir count capacity
unopened dir capacity (causes.Spent counter) = Spent dir
unopened dir capacity causes.NoMemory = NoMemory
