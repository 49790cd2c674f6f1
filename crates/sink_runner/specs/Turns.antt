-- One turn of a sink, by the calls that it makes of its channel.
use Rattle.std.specs.Prelude.{◌≡◌, ◌<◌, ◌⊎◌, ℕ, List, [], ◌∷◌, ◌++◌, length, take, Some, None, Result, Ok, Err}
use Rattle.std.specs.List.{sum_by}
use Rattle.event_core.specs.Content.{Content, size}
use Rattle.channel_face.specs.Faces.{Own, IsTakeBegun, IsTake, IsTakeCommit, IsTakeRolledBack}
use Rattle.channel_face.specs.Machine.{State}
use Rattle.channel_face.specs.Token.{Token}
use Rattle.channel_face.specs.declared.replies.BeginRefused.TheVariants as Begin
use Rattle.channel_face.specs.declared.replies.PutRefused.TheVariants as Put
use Rattle.channel_face.specs.declared.replies.TakeRefused.TheVariants as TakeNo
use Rattle.channel_face.specs.declared.replies.FaceRefused.{FaceRefused}
use Rattle.channel_face.specs.declared.replies.FaceRefused.TheVariants as Face
use Rattle.plug_in.specs.declared.sink.SinkRefused.{SinkRefused}
use Rattle.plug_in.specs.declared.sink.SinkRefused.TheVariants as Sink
use Rattle.sink_runner.specs.declared.turn.Turn.{Turn}
use Rattle.sink_runner.specs.declared.turn.Turn.TheVariants.{Delivered, Empty, Failed, InDoubt, NoMemory}
use Rattle.sink_runner.specs.declared.turn.TurnCause.TheVariants as Cause

-- how a turn ends in which the channel refused a call
abbrev pub turn_refused : FaceRefused → Turn
turn_refused (Face.Begin Begin.NoMemory) = NoMemory
turn_refused (Face.Put Put.NoMemory) = NoMemory
turn_refused (Face.Take TakeNo.NoMemory) = NoMemory
turn_refused Face.InDoubt = InDoubt
turn_refused refused = Failed (Cause.Channel refused)

-- how it ends when the delivery was refused
abbrev pub not_delivered : SinkRefused → Turn
not_delivered Sink.Refused = Failed Cause.Sink
not_delivered Sink.NoMemory = NoMemory

-- how it ends when it was not, and the commit was answered so
abbrev pub delivered : ℕ → Result (Unit {0}) FaceRefused → Turn
delivered count (Ok done) = Delivered count
delivered count (Err refused) = turn_refused refused

-- the sink refused the batch
abbrev pub IsSinkFailure : Turn → Type 0
IsSinkFailure turn = turn ≡ Failed Cause.Sink

-- another event is taken: these are fewer than the batch, and below 16,777,216 bytes
abbrev pub HasRoom : ℕ → List Content → Type 0
HasRoom batch events = (length events < batch) × (sum_by size events < 16777216)

-- each of them was taken while there was room
abbrev pub HadRoom : ℕ → List Content → Type 0
HadRoom batch events = (k : ℕ) → k < length events → HasRoom batch (take k events)

-- Below, `saw own s` where `own` are the face's own calls and it left the channel in the state s, `seen` is how many of the channel's calls it
-- has seen, and `earlier` are its own calls so far.

-- takes gave these events, in order
abbrev pub AreTaken : ℕ → Token → List Content → List Own → Type 0
AreTaken seen token [] own = own ≡ []
AreTaken seen token (event ∷ events) own = (first rest : List Own) × (own ≡ first ++ rest) × IsTake seen token (Ok (Some event)) first × AreTaken seen token events rest

-- The takes ended so: there was no room for another event, or none was left; or the turn is over, since a take was refused or there was no memory for an event.
abbrev pub EndsTaking : ℕ → Token → ℕ → List Content → Result (Unit {0}) Turn → List Own → Type 0
EndsTaking seen token batch events (Ok done) own = ((own ≡ []) × (HasRoom batch events → ⊥)) ⊎ (HasRoom batch events × IsTake seen token (Ok None) own)
EndsTaking seen token batch events (Err turn) own =
    (HasRoom batch events × ((refused : FaceRefused) × IsTake seen token (Err refused) own × (turn ≡ turn_refused refused))) ⊎ ((own ≡ []) × (0 < length events) × (turn ≡ NoMemory))

-- these events were taken, each while there was room, and the takes ended so
abbrev pub AreTakenUpTo : ℕ → Token → ℕ → List Content → Result (Unit {0}) Turn → List Own → Type 0
AreTakenUpTo seen token batch events stop own =
    HadRoom batch events × ((takes last : List Own) × (own ≡ takes ++ last) × AreTaken seen token events takes × EndsTaking seen token batch events stop last)

-- what is to be delivered was taken; where the turn is over, some events were
abbrev pub IsTaking : ℕ → Token → ℕ → List Content → Result (Unit {0}) Turn → List Own → Type 0
IsTaking seen token batch taken (Ok done) own = AreTakenUpTo seen token batch taken (Ok done) own
IsTaking seen token batch taken (Err turn) own = (events : List Content) × AreTakenUpTo seen token batch events (Err turn) own

-- The delivery was answered so: the transaction is committed where it was Ok, and rolled back otherwise.
abbrev pub EndsDelivery : (List Own → State → Type 0) → ℕ → Token → List Content → Result (Unit {0}) SinkRefused → Turn → List Own → List Own → Type 0
EndsDelivery saw seen token events (Ok done) turn earlier own = (committed : Result (Unit {0}) FaceRefused) × IsTakeCommit saw seen token committed earlier own × (turn ≡ delivered (length events) committed)
EndsDelivery saw seen token events (Err refused) turn earlier own = IsTakeRolledBack saw token earlier own × (turn ≡ not_delivered refused)

-- What was taken is delivered, whole and in order. Where nothing was, the transaction is rolled back.
abbrev pub IsHandedOver : {S : Type 0} → (List Own → State → Type 0) → ℕ → (S → List Content → ℕ → Result (Unit {0}) SinkRefused → S → Type 0) → Token → List Content → ℕ → S → Turn → S → List Own → List Own → Type 0
IsHandedOver saw seen delivers token [] moment sink turn after earlier own = IsTakeRolledBack saw token earlier own × (turn ≡ Empty) × (after ≡ sink)
IsHandedOver saw seen delivers token (event ∷ events) moment sink turn after earlier own =
    (answer : Result (Unit {0}) SinkRefused) × delivers sink (event ∷ events) moment answer after × EndsDelivery saw seen token (event ∷ events) answer turn earlier own

-- The takes ended so: what was taken is handed over, or the turn is over and the transaction is rolled back.
abbrev pub EndsTurn : {S : Type 0} → (List Own → State → Type 0) → ℕ → (S → List Content → ℕ → Result (Unit {0}) SinkRefused → S → Type 0) → Token → List Content → ℕ → S → Result (Unit {0}) Turn → Turn → S → List Own → List Own → Type 0
EndsTurn saw seen delivers token events moment sink (Ok done) turn after earlier own = IsHandedOver saw seen delivers token events moment sink turn after earlier own
EndsTurn saw seen delivers token events moment sink (Err over) turn after earlier own = IsTakeRolledBack saw token earlier own × (turn ≡ over) × (after ≡ sink)

-- the begin was answered so
abbrev pub EndsBegin : {S : Type 0} → (List Own → State → Type 0) → ℕ → (S → List Content → ℕ → Result (Unit {0}) SinkRefused → S → Type 0) → ℕ → ℕ → S → Result Token FaceRefused → Turn → S → List Own → List Own → Type 0
EndsBegin saw seen delivers batch moment sink (Err refused) turn after earlier own = (own ≡ []) × (turn ≡ turn_refused refused) × (after ≡ sink)
EndsBegin saw seen delivers batch moment sink (Ok token) turn after earlier own =
    (events : List Content) × (stop : Result (Unit {0}) Turn) × (takes ending : List Own) × (own ≡ takes ++ ending) × AreTakenUpTo seen token batch events stop takes
    × EndsTurn saw seen delivers token events moment sink stop turn after (earlier ++ takes) ending

-- One turn: a transaction is begun, events are taken, and they are handed over.
abbrev pub IsTurn : {S : Type 0} → (List Own → State → Type 0) → ℕ → (S → List Content → ℕ → Result (Unit {0}) SinkRefused → S → Type 0) → ℕ → ℕ → S → Turn → S → List Own → List Own → Type 0
IsTurn saw seen delivers batch moment sink turn after earlier own =
    (begun : Result Token FaceRefused) × (first rest : List Own) × (own ≡ first ++ rest) × IsTakeBegun seen begun first × EndsBegin saw seen delivers batch moment sink begun turn after (earlier ++ first) rest
