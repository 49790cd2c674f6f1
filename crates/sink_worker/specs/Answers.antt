-- What follows on what a sink run came to.
use Rattle.std.specs.Prelude.{ℕ, Bool, true, false}
use Rattle.channel_face.specs.declared.replies.BeginRefused.TheVariants as begin
use Rattle.channel_face.specs.declared.replies.PutRefused.TheVariants as put
use Rattle.channel_face.specs.declared.replies.TakeRefused.TheVariants as take
use Rattle.channel_face.specs.declared.replies.StageCause.TheVariants as stage
use Rattle.channel_face.specs.declared.replies.FaceRefused.{FaceRefused}
use Rattle.channel_face.specs.declared.replies.FaceRefused.TheVariants.{Begin, Put, Take, Stage}
use Rattle.sink_runner.specs.declared.turn.Turn.{Turn}
use Rattle.sink_runner.specs.declared.turn.Turn.TheVariants.{Delivered, Empty, Failed, InDoubt}
use Rattle.sink_runner.specs.declared.turn.TurnCause.TheVariants.{Channel}

-- a call found the channel broken
abbrev pub is_broken : FaceRefused → Bool
is_broken (Begin begin.Broken) = true
is_broken (Put put.Broken) = true
is_broken (Take take.Broken) = true
is_broken (Stage stage.Broken) = true
is_broken refused = false

-- the channel was broken, or the commit was left in doubt
abbrev pub needs_mend : Turn → Bool
needs_mend InDoubt = true
needs_mend (Failed (Channel refused)) = is_broken refused
needs_mend turn = false

-- how long the worker pauses, in milliseconds
abbrev pub pause_after : Turn → ℕ
pause_after (Delivered count) = 0
pause_after Empty = 100
pause_after turn = 1000
