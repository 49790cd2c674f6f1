-- What a source and a sink see of a channel, and the whole transactions that they make.
use Rattle.std.specs.Prelude.{◌≡◌, ◌≤◌, ◌-◌, ◌^◌, ◌⊎◌, ℕ, List, [], ◌∷◌, ◌++◌, take, drop, Option, None, Result, Ok, Err, Bool, true, false, is_ok, if◌then◌else◌}
use Rattle.event_core.specs.Content.{Content}
use Rattle.channel_face.specs.Token.{Token}
use Rattle.channel_face.specs.Machine.{State, Call, BeginPut, BeginTake, Put, Take, StagePut, StageTake, Flush, RollbackPut, RollbackTake, puts_of, takes_of, settled}
use Rattle.channel_face.specs.History.{Opening, Step}
use Rattle.channel_face.specs.declared.replies.Counter.TheVariants.{Calls}
use Rattle.channel_face.specs.declared.replies.Ticket.{Ticket}
use Rattle.channel_face.specs.declared.replies.Settled.{Settled}
use Rattle.channel_face.specs.declared.replies.Settled.TheVariants.{Yes, No, InDoubt}
use Rattle.channel_face.specs.declared.replies.Put.{Put as PutDone}
use Rattle.channel_face.specs.declared.replies.Taken.{Taken}
use Rattle.channel_face.specs.declared.replies.BeginRefused.{BeginRefused}
use Rattle.channel_face.specs.declared.replies.BeginRefused.TheVariants as Begin
use Rattle.channel_face.specs.declared.replies.PutRefused.{PutRefused}
use Rattle.channel_face.specs.declared.replies.PutRefused.TheVariants as PutNo
use Rattle.channel_face.specs.declared.replies.TakeRefused.{TakeRefused}
use Rattle.channel_face.specs.declared.replies.TakeRefused.TheVariants as TakeNo
use Rattle.channel_face.specs.declared.replies.StageCause.{StageCause}
use Rattle.channel_face.specs.declared.replies.StageCause.TheVariants as StageNo
use Rattle.channel_face.specs.declared.replies.FlushRefused.{FlushRefused}
use Rattle.channel_face.specs.declared.replies.FlushRefused.TheVariants as FlushNo
use Rattle.channel_face.specs.declared.replies.FaceRefused.{FaceRefused}
use Rattle.channel_face.specs.declared.replies.FaceRefused.TheVariants as Face

-- A call of one's own with its reply, the state in which the channel was before it, and the disk's clock when it ended.
pub record Own : Type 0 where
  pub call : Call
  pub before : State
  pub moment : ℕ

abbrev pub one : Call → State → ℕ → List Own
one call before moment = record { call = call; before = before; moment = moment } ∷ []

-- After any opening and earlier calls, and from any calls of its own on, a face goes on by some more, of which P is true after its own ones.
abbrev pub Gains : (Opening → List Step → List Own → Type 0) → (Opening → List Step → List Own → Type 0) → (List Own → List Own → Type 0) → Type 0
Gains before later P = (start : Opening) (earlier : List Step) (own : List Own) → before start earlier own → (more : List Own) × later start earlier (own ++ more) × P own more

-- the events at these places
abbrev pub picked_events : List Content → List ℕ → List Content
picked_events batch [] = []
picked_events batch (place ∷ picked) = take 1 (drop place batch) ++ picked_events batch picked

-- a call of a shared channel that was refused because no more calls are counted

abbrev pub is_spent_begin : Result Token BeginRefused → Bool
is_spent_begin (Err (Begin.Spent Calls)) = true
is_spent_begin reply = false

abbrev pub is_spent_put : Result PutDone PutRefused → Bool
is_spent_put (Err (PutNo.Spent Calls)) = true
is_spent_put reply = false

abbrev pub is_spent_take : Result Taken TakeRefused → Bool
is_spent_take (Err (TakeNo.Spent Calls)) = true
is_spent_take reply = false

abbrev pub is_spent_stage : Result Ticket StageCause → Bool
is_spent_stage (Err (StageNo.Spent Calls)) = true
is_spent_stage reply = false

abbrev pub is_spent_flush : Result (Unit {0}) FlushRefused → Bool
is_spent_flush (Err (FlushNo.Spent Calls)) = true
is_spent_flush reply = false

-- the event that a take gave
abbrev pub taken_event : Result Taken TakeRefused → Result (Option Content) FaceRefused
taken_event (Ok taken) = Ok taken.event
taken_event (Err refused) = Err (Face.Take refused)

-- the token of a transaction that was begun
abbrev pub begun_as : Result Token BeginRefused → Result Token FaceRefused
begun_as (Ok token) = Ok token
begun_as (Err refused) = Err (Face.Begin refused)

-- how a whole transaction ends that was staged
abbrev pub in_doubt_unless : {A : Type 0} → Bool → A → Result A FaceRefused
in_doubt_unless sure value = if sure then Ok value else Err Face.InDoubt

-- Below, `saw own s` where `own` are the face's own calls and it left the channel in the state s, `seen` is how many of the channel's calls it
-- has seen, and `earlier` are its own calls so far.

-- The call was made in this state. One that was refused because no more calls are counted is not counted, and comes only near the end of the count.
abbrev pub IsMade : ℕ → Bool → Call → State → List Own → Type 0
IsMade seen false call s own = (moment : ℕ) × (own ≡ one call s moment)
IsMade seen true call s own = (own ≡ []) × (2 ^ 64 - 1025 ≤ seen)

-- In this state the face made its next call; or it made none, and so it left the channel.
abbrev pub IsFound : (List Own → State → Type 0) → List Own → List Own → State → Type 0
IsFound saw earlier [] s = saw earlier s
IsFound saw earlier (o ∷ own) s = o.before ≡ s

-- The transaction was rolled back, unless its token was stale in the state that the face found. A rollback of a stale token changes nothing, and a shared
-- channel does not count it.
abbrev pub IsRolledBack : (List Own → State → Type 0) → (Bool → Call) → (State → Type 0) → List Own → List Own → Type 0
IsRolledBack saw rollback IsStale earlier own =
    ((s : State) × (moment : ℕ) × (own ≡ one (rollback true) s moment))
    ⊎ ((s : State) × IsFound saw earlier own s × IsStale s × ((own ≡ []) ⊎ ((moment : ℕ) × (own ≡ one (rollback false) s moment))))

abbrev pub IsPutRolledBack : (List Own → State → Type 0) → Token → List Own → List Own → Type 0
IsPutRolledBack saw token earlier own = IsRolledBack saw (RollbackPut token) (λ s. puts_of s token ≡ None) earlier own

abbrev pub IsTakeRolledBack : (List Own → State → Type 0) → Token → List Own → List Own → Type 0
IsTakeRolledBack saw token earlier own = IsRolledBack saw (RollbackTake token) (λ s. takes_of s token ≡ None) earlier own

-- A staged transaction whose ticket was found so: it is flushed exactly where that is `No`, unless no more calls are counted. It is sure exactly
-- where it was settled or the flush answered Ok.
abbrev pub EndsAs : ℕ → State → Settled → List Own → Bool → Type 0
EndsAs seen s Yes own sure = (own ≡ []) × (sure ≡ true)
EndsAs seen s No own sure = (reply : Result (Unit {0}) FlushRefused) × IsMade seen (is_spent_flush reply) (Flush reply) s own × (sure ≡ is_ok reply)
EndsAs seen s InDoubt own sure = (own ≡ []) × (sure ≡ false)

-- its ticket was asked for in the state that the face found
abbrev pub Ends : (List Own → State → Type 0) → ℕ → Ticket → List Own → List Own → Bool → Type 0
Ends saw seen ticket earlier own sure = (s : State) × IsFound saw earlier own s × EndsAs seen s (settled s ticket) own sure

-- each event was put, in order
abbrev pub ArePut : Token → List Content → List Own → Type 0
ArePut token [] own = own ≡ []
ArePut token (event ∷ events) own = (done : PutDone) × (s : State) × (moment : ℕ) × (rest : List Own) × (own ≡ one (Put token event (Ok done)) s moment ++ rest) × ArePut token events rest

-- these events were put, up to the first refusal
abbrev pub ArePutUpTo : ℕ → Token → List Content → Result (Unit {0}) PutRefused → List Own → Type 0
ArePutUpTo seen token events (Ok done) own = ArePut token events own
ArePutUpTo seen token events (Err refused) own =
    (front back : List Content) × (event : Content) × (s : State) × (puts put : List Own) × (events ≡ front ++ event ∷ back) × (own ≡ puts ++ put) × ArePut token front puts
    × IsMade seen (is_spent_put (Err refused)) (Put token event (Err refused)) s put

-- a stage of puts was answered so
abbrev pub EndsStage : (List Own → State → Type 0) → ℕ → Token → Result Ticket StageCause → List Own → List Own → Result ℕ FaceRefused → Type 0
EndsStage saw seen token (Err cause) earlier own result = IsPutRolledBack saw token earlier own × (result ≡ Err (Face.Stage cause))
EndsStage saw seen token (Ok ticket) earlier own result = (sure : Bool) × Ends saw seen ticket earlier own sure × (result ≡ in_doubt_unless sure ticket.first)

-- the puts are staged
abbrev pub IsPutStage : (List Own → State → Type 0) → ℕ → Token → Result ℕ FaceRefused → List Own → List Own → Type 0
IsPutStage saw seen token result earlier own =
    (reply : Result Ticket StageCause) × (s : State) × (staged ending : List Own) × (own ≡ staged ++ ending)
    × IsMade seen (is_spent_stage reply) (StagePut token reply) s staged × EndsStage saw seen token reply (earlier ++ staged) ending result

-- the puts were answered so
abbrev pub EndsPuts : (List Own → State → Type 0) → ℕ → Token → Result (Unit {0}) PutRefused → List Own → List Own → Result ℕ FaceRefused → Type 0
EndsPuts saw seen token (Ok done) earlier own result = IsPutStage saw seen token result earlier own
EndsPuts saw seen token (Err refused) earlier own result = IsPutRolledBack saw token earlier own × (result ≡ Err (Face.Put refused))

-- the begin was answered so
abbrev pub EndsBegin : (List Own → State → Type 0) → ℕ → List Content → Result Token BeginRefused → List Own → List Own → Result ℕ FaceRefused → Type 0
EndsBegin saw seen events (Err refused) earlier own result = (own ≡ []) × (result ≡ Err (Face.Begin refused))
EndsBegin saw seen events (Ok token) earlier own result =
    (reply : Result (Unit {0}) PutRefused) × (puts ending : List Own) × (own ≡ puts ++ ending) × ArePutUpTo seen token events reply puts
    × EndsPuts saw seen token reply (earlier ++ puts) ending result

-- A transaction of its own that puts these events: a begin, a put of each up to the first refusal, and a stage. It is rolled back where a put or the
-- stage was refused, unless its token is stale, and flushed exactly where its ticket was `No` when it was asked for, unless no more calls are counted.
abbrev pub IsPutBatch : (List Own → State → Type 0) → ℕ → List Content → Result ℕ FaceRefused → List Own → List Own → Type 0
IsPutBatch saw seen events result earlier own =
    (reply : Result Token BeginRefused) × (s : State) × (begun ending : List Own) × (own ≡ begun ++ ending)
    × IsMade seen (is_spent_begin reply) (BeginPut reply) s begun × EndsBegin saw seen events reply (earlier ++ begun) ending result

abbrev pub IsTakeBegun : ℕ → Result Token FaceRefused → List Own → Type 0
IsTakeBegun seen result own =
    (reply : Result Token BeginRefused) × (s : State) × IsMade seen (is_spent_begin reply) (BeginTake reply) s own × (result ≡ begun_as reply)

abbrev pub IsTake : ℕ → Token → Result (Option Content) FaceRefused → List Own → Type 0
IsTake seen token result own =
    (reply : Result Taken TakeRefused) × (s : State) × IsMade seen (is_spent_take reply) (Take token reply) s own × (result ≡ taken_event reply)

-- a stage of takes was answered so
abbrev pub EndsTakeStage : (List Own → State → Type 0) → ℕ → Token → Result Ticket StageCause → List Own → List Own → Result (Unit {0}) FaceRefused → Type 0
EndsTakeStage saw seen token (Err cause) earlier own result = IsTakeRolledBack saw token earlier own × (result ≡ Err (Face.Stage cause))
EndsTakeStage saw seen token (Ok ticket) earlier own result = (sure : Bool) × Ends saw seen ticket earlier own sure × (result ≡ in_doubt_unless sure tt)

-- A commit of takes: a stage, and a rollback where it was refused, unless its token is stale. It is flushed exactly where its ticket was `No` when it
-- was asked for, unless no more calls are counted.
abbrev pub IsTakeCommit : (List Own → State → Type 0) → ℕ → Token → Result (Unit {0}) FaceRefused → List Own → List Own → Type 0
IsTakeCommit saw seen token result earlier own =
    (reply : Result Ticket StageCause) × (s : State) × (staged ending : List Own) × (own ≡ staged ++ ending)
    × IsMade seen (is_spent_stage reply) (StageTake token reply) s staged × EndsTakeStage saw seen token reply (earlier ++ staged) ending result
