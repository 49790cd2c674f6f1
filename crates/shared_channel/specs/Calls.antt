-- What a call through a pass did.
use Rattle.std.specs.Prelude.{◌≡◌, ◌<◌, ◌≤◌, ◌+◌, ◌-◌, ◌^◌, ℕ, List, [], ◌∷◌, length, Bool, true, false, Result, Err}
use Rattle.channel_face.specs.Token.{Token}
use Rattle.channel_face.specs.Machine.{State, Call}
use Rattle.channel_face.specs.History.{Opening, Step, Said, opening, state_after, IsRun, by_pass, calls}
use Rattle.channel_face.specs.Calls.{IsCommit}
use Rattle.channel_face.specs.Faces.{is_spent_stage}
use Rattle.channel_face.specs.declared.replies.Counter.TheVariants.{Calls as CallsCount}
use Rattle.channel_face.specs.declared.replies.Ticket.{Ticket}
use Rattle.channel_face.specs.declared.replies.StageCause.{StageCause}
use Rattle.channel_face.specs.declared.replies.StageCause.TheVariants.{Spent}
use Rattle.channel_face.specs.declared.replies.CommitRefused.{CommitRefused}
use Rattle.channel_face.specs.declared.replies.CommitRefused.TheVariants.{Stage}
use Rattle.channel_lock.specs.Views.{View}
use Rattle.channel_lock.specs.Turns.{MadeInTurn}
use Rattle.shared_channel.specs.Counting.{StandsCounting}

-- a call of the pass with this number
abbrev pub step : ℕ → Call → ℕ → Step
step by call moment = record { pass = by; call = call; moment = moment }

-- the state that the pass has seen
abbrev pub state_seen : View → State
state_seen v = state_after (opening v.base) v.seen

-- the call, where it was made
abbrev pub made_if : Bool → Step → List Step
made_if true s = s ∷ []
made_if false s = []

-- A call that is spent was not made, since so many calls were counted.
abbrev pub Bounds : Bool → ℕ → ℕ → Type 0
Bounds true most calls = most ≤ calls
Bounds false most calls = calls < most

module _ {C : Type 0} (stands : C → Opening → List Step → Type 0) (tells : C → Bool) where
  -- This channel stands for what was seen, of which each call was answered as the machine answers it there. It tells where the one that was shared did.
  pub record IsSeen (c : C) (w : View) : Type 0 where
    pub calls : StandsCounting stands c w.base w.seen
    pub run : IsRun (tells c) (opening w.base) w.seen
    pub same : w.base.tells ≡ tells c

  -- The pass made these calls under one lock, and left the channel so.
  pub record Left (v : View) (calls : List Step) (w : View) (c : C) : Type 0 where
    pub made : MadeInTurn v calls w
    pub seen : IsSeen c w

  -- What the channel was seen to be: nothing was called, and it stands for all that is seen.
  abbrev pub Looks : View → View → Type 0
  Looks v w = (c : C) × Left v [] w c

  -- A channel that stands for what was seen is so, in the state that was seen.
  abbrev pub SawOf : (C → State → Type 0) → View → Type 0
  SawOf P w = (c : C) × IsSeen c w × P c (state_seen w)

module _ {C : Type 0} (stands : C → Opening → List Step → Type 0) (tells : C → Bool) (moment : C → ℕ) where
  -- it made this call
  abbrev pub Called : View → ℕ → Call → View → Type 0
  Called v by call w = (c : C) × Left stands tells v (step by call (moment c) ∷ []) w c

  -- A call that is spent was not made: the channel was seen as it is, and so many calls were counted. Each other one was made, while they were fewer.
  abbrev pub Counted : Bool → ℕ → View → ℕ → Call → View → Type 0
  Counted true most v by call w = Looks stands tells v w × (most ≤ length w.seen)
  Counted false most v by call w = Called v by call w × (length w.seen ≤ most)

  -- so it is with a call that no rollback needs the count for
  abbrev pub Answers : Bool → View → ℕ → Call → View → Type 0
  Answers spent v by call w = Counted spent (2 ^ 64 - 1025) v by call w

  -- A rollback was made, or its token was stale in the state that the channel was seen in.
  abbrev pub RolledBack : Bool → View → ℕ → Call → (State → Type 0) → View → Type 0
  RolledBack true v by call IsStale w = Called v by call w
  RolledBack false v by call IsStale w = Looks stands tells v w × IsStale (state_seen w)

-- a commit that was refused because no more calls are counted
abbrev pub is_spent_commit : Result Ticket (CommitRefused Token) → Bool
is_spent_commit (Err (Stage refused)) = is_spent_stage (Err refused.cause)
is_spent_commit reply = false

-- The commit's calls were made while so many fewer were counted. Where it is spent, none was made, the channel was seen as it is, and the token comes back.
abbrev pub Commits : {C : Type 0} → (C → Opening → List Step → Type 0) → (C → Bool) → Bool → View → ℕ → (Result Ticket StageCause → Call) → Token → Result Ticket (CommitRefused Token) → View → Type 0
Commits stands tells true v by stage token result w = Looks stands tells v w × (2 ^ 64 - 1026 ≤ length w.seen) × (result ≡ Err (Stage (record { txn = token; cause = Spent CallsCount })))
Commits stands tells false v by stage token result w =
    (own : List Said) × (c : _) × Left stands tells v (by_pass by own) w c × IsCommit stage token (calls own) result × (length w.seen < 2 ^ 64 - 1026 + length own)
