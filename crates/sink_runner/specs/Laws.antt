-- What follows for whole turns.
use Rattle.std.specs.Prelude.{◌≡◌, ℕ, List, [], ◌∷◌, ◌++◌, Option, Some, None, Result, Ok, Bool, true, false, ◌||◌}
use Rattle.event_core.specs.Content.{Content}
use Rattle.channel_face.specs.Faces.{Own}
use Rattle.channel_face.specs.Machine.{State, Call, Take, StageTake}
use Rattle.plug_in.specs.declared.sink.SinkRefused.{SinkRefused}
use Rattle.sink_runner.specs.Turns.{IsTurn}
use Rattle.sink_runner.specs.declared.turn.Turn.{Turn}

-- the event that a call took
abbrev pub event_of : Option Content → List Content
event_of None = []
event_of (Some event) = event ∷ []

abbrev pub given_by : Call → List Content
given_by (Take token (Ok taken)) = event_of taken.event
given_by call = []

-- the events that calls took, in order
abbrev pub taken_by : List Own → List Content
taken_by [] = []
taken_by (own ∷ calls) = given_by own.call ++ taken_by calls

abbrev pub is_stage : Call → Bool
is_stage (StageTake token reply) = true
is_stage call = false

-- some call was to stage a transaction of takes
abbrev pub commits : List Own → Bool
commits [] = false
commits (own ∷ calls) = is_stage own.call || commits calls

-- a turn that goes to commit has delivered just the events that it took, in order, and the delivery answered Ok
abbrev pub CommitsWhatItDelivered : {S : Type 0} → (List Own → State → Type 0) → ℕ → (S → List Content → ℕ → Result (Unit {0}) SinkRefused → S → Type 0) → Type 0
CommitsWhatItDelivered {S} saw seen delivers =
    (batch moment : ℕ) (sink after : S) (turn : Turn) (earlier own : List Own) → IsTurn saw seen delivers batch moment sink turn after earlier own → commits own ≡ true → delivers sink (taken_by own) moment (Ok tt) after
