-- What a sink's worker did.
use Rattle.std.specs.Prelude.{◌≡◌, ℕ, List, Bool, Option, Result}
use Rattle.channel_face.specs.declared.replies.OpenCause.{OpenCause}
use Rattle.sink_runner.specs.declared.turn.Turn.{Turn}
use Rattle.sink_worker.specs.declared.worker.SinkWorker.{SinkWorker}
use Rattle.sink_worker.specs.Rounds.{Taking, Rounds}

-- a worker as its rounds see it
abbrev pub taking : {F S C : Type 0} → (C → Option (ℕ → ℕ)) → SinkWorker F S C → Taking F S
taking moments w = record { from = w.port; sink = w.sink; moments = moments w.clock }

-- It made rounds one after the other, and no other call of its channel.
pub record SinkRan {F S C : Type 0} (Turns : Taking F S → Turn → Taking F S → Type 0)
    (Mends : Taking F S → Result Bool OpenCause → Taking F S → Type 0) (moments : C → Option (ℕ → ℕ))
    (old new : SinkWorker F S C) : Type 0 where
  pub turns : List Turn
  pub rounds : Rounds Turns Mends turns (taking moments old) (taking moments new)
  pub channel : new.channel ≡ old.channel
  pub batch : new.batch ≡ old.batch
