-- Parts of a run of the generator, as the functions that make them answer.
use Rattle.std.specs.Prelude.{◌≡◌, ℕ, List, [], ◌∷◌, ◌++◌, Some, Result, Ok, Err, true}
use Rattle.event_core.specs.Content.{Content}
use Rattle.channel_face.specs.Faces.{is_spent_put}
use Rattle.channel_face.specs.Token.{Token}
use Rattle.channel_face.specs.Machine.{State, Call, Flush, Put, RollbackTake, Take}
use Rattle.channel_face.specs.declared.replies.FaceRefused.TheVariants as FaceNo
use Rattle.channel_face.specs.declared.replies.StageCause.{StageCause}
use Rattle.channel_face.specs.declared.replies.Taken.{Taken}
use Rattle.channel_face.specs.declared.replies.Ticket.{Ticket}
use Rattle.load_gen.specs.Calls.{IsCalled, IsCutOff, IsStopped}
use Rattle.load_gen.specs.Runs.{ArePut, IsTaken}
use Rattle.load_gen.specs.declared.refused.LoadRefused.{LoadRefused}
use Rattle.load_gen.specs.declared.refused.LoadRefused.TheVariants.{Face, NoMemory}

-- The calls of which P is true were made, or they were cut off.
abbrev pub Does : (List Call → Type 0) → ℕ → State → Result (Unit {0}) LoadRefused → List Call → Type 0
Does P seen s (Ok done) calls = P calls
Does P seen s (Err NoMemory) calls = IsStopped P s calls
Does P seen s (Err cause) calls = IsCutOff P seen s cause calls

-- a commit of a transaction: its stage, and a flush
abbrev pub IsCommit : (Result Ticket StageCause → Call) → List Call → Type 0
IsCommit stage calls = (ticket : Ticket) × (calls ≡ stage (Ok ticket) ∷ Flush (Ok tt) ∷ [])

-- a rollback of takes
abbrev pub IsBackCall : Token → List Call → Type 0
IsBackCall token calls = calls ≡ RollbackTake token true ∷ []

-- a put of this event failed, or there was no memory for the event
abbrev pub PutFails : ℕ → Token → Content → LoadRefused → List Call → Type 0
PutFails seen token event (Face (FaceNo.Put cause)) calls = IsCalled seen (is_spent_put (Err cause)) (Put token event (Err cause)) calls
PutFails seen token event NoMemory calls = calls ≡ []
PutFails seen token event why calls = ⊥

-- these events were put, up to the first that failed
abbrev pub ArePutUpTo : ℕ → Token → List Content → Result (Unit {0}) LoadRefused → List Call → Type 0
ArePutUpTo seen token events (Ok done) calls = ArePut token events calls
ArePutUpTo seen token events (Err why) calls =
    (front back : List Content) × (event : Content) × (puts put : List Call) × (events ≡ front ++ event ∷ back) × (calls ≡ puts ++ put)
    × ArePut token front puts × PutFails seen token event why put

-- takes gave these events, in order
abbrev pub HaveGiven : Token → List Content → List Call → Type 0
HaveGiven token [] calls = calls ≡ []
HaveGiven token (event ∷ events) calls = (taken : Taken) × (taken.event ≡ Some event) × (rest : List Call) × (calls ≡ Take token (Ok taken) ∷ rest) × HaveGiven token events rest

-- a transaction of takes after batch k, whatever it takes
abbrev pub IsSomeTaken : ℕ → List Call → Type 0
IsSomeTaken k calls = (events : List Content) × IsTaken k events calls
