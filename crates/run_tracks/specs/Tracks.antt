-- What one worker called in the whole history of a channel.
use Rattle.std.specs.Prelude.{◌≡◌, ℕ, List, [], ◌∷◌, ◌++◌, length, Bool, Result}
use mathlib.Core.List.{IsPrefix}
use Rattle.flume_host.specs.Series.{Gives}
use Rattle.event_core.specs.Content.{Content}
use Rattle.channel_face.specs.History.{Opening, Step, opening, state_after}
use Rattle.channel_face.specs.Keeps.{IsMend}
use Rattle.channel_face.specs.Machine.{State}
use Rattle.channel_face.specs.Faces.{Own, IsPutBatch}
use Rattle.channel_face.specs.declared.replies.FaceRefused.{FaceRefused}
use Rattle.channel_face.specs.declared.replies.OpenCause.{OpenCause}
use Rattle.shared_channel.specs.Passes.{Known}
use Rattle.shared_channel.specs.Ports.{own_calls}
use Rattle.sink_runner.specs.Turns.{IsTurn}
use Rattle.sink_runner.specs.declared.turn.Turn.{Turn}
use Rattle.sink_worker.specs.Rounds.{Counts, Taking, Told}

-- A channel's opening and all calls since, the number of a worker's pass, and that worker's own calls so far.
pub record Track : Type 0 where
  pub start : Opening
  pub whole : List Step
  pub number : ℕ
  pub own : List Own

-- the history that this pass has seen, and a worker's number, of which no call was made yet
abbrev pub track_of : Known → ℕ → Track
track_of home number = record { start = home.view.base; whole = home.view.seen; number = number; own = [] }

-- all calls with the number were made
abbrev pub ended : Track → Track
ended t = record t { own = own_calls (t.number ∷ []) (opening t.start) t.whole }

-- At some moment of the whole history the calls with this number were these, and the channel was in this state.
abbrev pub Stood : Track → List Own → State → Type 0
Stood t own s =
    (front : List Step) × IsPrefix front t.whole × (own_calls (t.number ∷ []) (opening t.start) front ≡ own)
    × (state_after (opening t.start) front ≡ s)

-- its next calls are these
abbrev pub Calls : Track → Track → List Own → Type 0
Calls old new more = new ≡ record old { own = old.own ++ more }

-- its next calls were one transaction that puts these events
abbrev pub Gave : Track → Track → List Content → Result ℕ FaceRefused → Type 0
Gave old new events result =
    (more : List Own) × Calls old new more × IsPutBatch (Stood old) (length old.whole) events result old.own more

-- its next calls were one run of a sink, at the next moment
abbrev pub Turned : {S : Type 0} → Told S → ℕ → Taking Track S → Turn → Taking Track S → Type 0
Turned sink batch old turn new =
    (moment : ℕ) × (more : List Own) × Gives moment old.moments new.moments × Counts sink.faults old.sink turn new.sink
    × Calls old.from new.from more × IsTurn (Stood old.from) (length old.from.whole) sink.delivers batch moment old.sink turn new.sink old.from.own more

-- its next calls were a mend of the channel, which is on a disk where OnDisk holds
abbrev pub Mended : Type 0 → {S : Type 0} → Taking Track S → Result Bool OpenCause → Taking Track S → Type 0
Mended OnDisk old result new =
    (more : List Own) × (new ≡ record old { from = new.from }) × Calls old.from new.from more
    × IsMend OnDisk (Stood old.from) (length old.from.whole) result old.from.own more
