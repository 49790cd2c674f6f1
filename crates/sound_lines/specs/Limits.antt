-- Why a channel refuses the batch of one event where nothing failed.
use Rattle.std.specs.Prelude.{◌≡◌, ◌⊎◌, ◌<◌, ◌≤◌, ◌+◌, ◌-◌, ◌^◌, ◌++◌, ℕ, List, [], ◌∷◌, length, Err}
use mathlib.Core.List.{IsPrefix}
use Rattle.event_core.specs.Content.{Content, size as size_of}
use Rattle.event_core.specs.Journal.{put_events}
use Rattle.channel_face.specs.History.{Opening, Step, opening, state_after}
use Rattle.channel_face.specs.Machine.{State, Call, BeginPut, Put as PutCall, StagePut, count, next_number}
use Rattle.channel_face.specs.Token.{Token}
use Rattle.channel_face.specs.declared.replies.BeginRefused.{BeginRefused}
use Rattle.channel_face.specs.declared.replies.BeginRefused.TheVariants as begin
use Rattle.channel_face.specs.declared.replies.Counter.TheVariants.{Txn, Number, File, Calls}
use Rattle.channel_face.specs.declared.replies.FaceRefused.{FaceRefused}
use Rattle.channel_face.specs.declared.replies.FaceRefused.TheVariants.{Begin, Put, Stage, InDoubt}
use Rattle.channel_face.specs.declared.replies.PutRefused.{PutRefused}
use Rattle.channel_face.specs.declared.replies.PutRefused.TheVariants as put
use Rattle.channel_face.specs.declared.replies.StageCause.{StageCause}
use Rattle.channel_face.specs.declared.replies.StageCause.TheVariants as stage

-- a begin is refused: as many transactions are open as may be, or none has a number left
abbrev pub LimitsBegin : State → BeginRefused → Type 0
LimitsBegin s (begin.TooManyOpen held) = (held ≡ 1024) × (1024 ≤ length s.opened)
LimitsBegin s (begin.Spent counter) = (counter ≡ Txn) × (2 ^ 64 - 1 ≤ s.txn)
LimitsBegin s cause = ⊥

-- a put is refused: the event is larger than a channel on a disk keeps, as many events are there as its capacity, or no log file has a
-- number left
abbrev pub LimitsPut : State → Content → PutRefused → Type 0
LimitsPut s event (put.TooLarge size) = (size ≡ size_of event) × (1_048_576 < size_of event)
LimitsPut s event (put.Full many) = (many ≡ count s) × (s.rules.limits.capacity ≤ count s)
LimitsPut s event (put.Spent counter) = counter ≡ File
LimitsPut s event cause = ⊥

-- a stage of one event is refused: with it there would be more than the capacity, or no event has a number left
abbrev pub LimitsStage : State → StageCause → Type 0
LimitsStage s (stage.Full many) =
    (many ≡ length s.items + length (put_events s.staged)) × (s.rules.limits.capacity < length s.items + length (put_events s.staged) + 1)
LimitsStage s (stage.Spent counter) = (counter ≡ Number) × (2 ^ 64 - 1 < next_number s + 1)
LimitsStage s cause = ⊥

-- the call was refused for this limit, in this state
abbrev pub Limits : FaceRefused → State → Call → Type 0
Limits (Begin cause) s call = (call ≡ BeginPut (Err cause)) × LimitsBegin s cause
Limits (Put cause) s call = (token : Token) × (event : Content) × (call ≡ PutCall token event (Err cause)) × LimitsPut s event cause
Limits (Stage cause) s call = (token : Token) × (call ≡ StagePut token (Err cause)) × LimitsStage s cause
Limits cause s call = ⊥

-- A call of the pass with this number, among all calls of a channel since its opening, of which P is true with the state in which it was made.
pub record HasCall (P : State → Call → Type 0) (start : Opening) (whole : List Step) (number : ℕ) : Type 0 where
  pub front : List Step
  pub step : Step
  pub within : IsPrefix (front ++ step ∷ []) whole
  pub pass : step.pass ≡ number
  pub is : P (state_after (opening start) front) step.call

-- A call was not made because no more calls are counted; a batch is then in doubt where that was its flush.
abbrev pub IsOutOfCalls : FaceRefused → Type 0
IsOutOfCalls (Begin (begin.Spent counter)) = counter ≡ Calls
IsOutOfCalls (Put (put.Spent counter)) = counter ≡ Calls
IsOutOfCalls (Stage (stage.Spent counter)) = counter ≡ Calls
IsOutOfCalls InDoubt = Unit {0}
IsOutOfCalls cause = ⊥

-- The channel refused the batch for a limit: a call of the pass with this number was refused for it, or so many calls are counted.
abbrev pub IsForLimit : Opening → List Step → ℕ → FaceRefused → Type 0
IsForLimit start whole number cause = HasCall (Limits cause) start whole number ⊎ (IsOutOfCalls cause × (2 ^ 64 - 1025 ≤ length whole))
