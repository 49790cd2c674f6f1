-- What the calls of a file channel did to its disk, one after another.
use Rattle.std.specs.Prelude.{◌≡◌, ◌↔◌, ◌≤◌, ℕ, List, [], ◌∷◌, Option, IsSome, Err, Bool, false, true}
use Rattle.flume_host.specs.Told.{Tells, Told, WhereTold, clock}
use Rattle.channel_face.specs.History.{Opening, Step, opening}
use Rattle.channel_face.specs.Machine.{State, Call, Checkpoint, Prune, Put, Reopen, after, puts_of}
use Rattle.channel_face.specs.declared.replies.Counter.TheVariants.{File}
use Rattle.channel_face.specs.declared.replies.PutRefused.TheVariants as PutNo
use Rattle.file_channel.specs.Stands.{FileState, StandsOver}
use Rattle.channel_writing.specs.Touches.{Flushed, IsSpentLog, Rests, flushes}
use Rattle.agent_commands.specs.declared.traced.TracedChannel.{TracedChannel}

-- a put, by a token that is not stale into a channel that is not broken, is refused for want of a log file exactly where none is left
abbrev pub FindsLog : State → Call → Option Told → Type 0
FindsLog s (Put token event result) told =
    s.broken ≡ false → IsSome (puts_of s token) → WhereTold told (λ t. (result ≡ Err (PutNo.Spent File)) ↔ IsSpentLog t s.rules.limits.max_file)
FindsLog s call told = Unit {0}

-- the call may change the disk: it came to a flush, or it lays a checkpoint, removes old files or opens the folder anew
abbrev pub may_change : Call → Bool
may_change (Checkpoint reply) = true
may_change (Prune reply) = true
may_change (Reopen reply) = true
may_change call = flushes call

-- What a call in this state did to the disk. One that may not change it left it alone; and whatever a crash then leaves opens to just what
-- is settled, unless the channel is broken.
pub record Touches (s : State) (call : Call) (told told' : Option Told) : Type 0 where
  pub quiet : may_change call ≡ false → told' ≡ told
  pub flushed : flushes call ≡ true → Tells told told' (λ t u. Flushed s t u)
  pub log : FindsLog s call told
  pub rests : Rests told' (after s call)

-- the calls, from this state on, led the disk from what it showed to what it shows
abbrev pub Trail : State → Option Told → List Step → Option Told → Type 0
Trail s told [] told' = told' ≡ told
Trail s told (step ∷ h) told' = (mid : Option Told) × Touches s step.call told mid × Trail (after s step.call) mid h told'

-- A channel that had made no call stood for this opening over a disk that had been settled and told this.
pub record Began (told : Option Told) (start : Opening) : Type 0 where
  pub faults : ℕ
  pub channel : FileState
  pub stands : StandsOver told faults channel start []
  pub rests : Rests told (opening start)
  pub settled : WhereTold told (λ t. start.from ≤ clock t)

-- The channel stands for these calls, and this is what they did to the disk.
pub record StandsTraced (told : Option Told) (faults : ℕ) (channel : FileState) (start : Opening) (h : List Step) : Type 0 where
  pub stands : StandsOver told faults channel start h
  pub first : Option Told
  pub began : Began first start
  pub trail : Trail (opening start) first h told

-- so a traced channel stands for calls
abbrev pub traced_by : {D : Type 0} → (D → Option Told) → (D → ℕ) → TracedChannel D → Opening → List Step → Type 0
traced_by told faults c = StandsTraced (told c.channel.0) (faults c.channel.0) c.channel.1
