-- What a pass calls, and how one of its calls is refused.
use Rattle.std.specs.Prelude.{◌≡◌, ◌⊎◌, ◌≤◌, ◌-◌, ◌^◌, ℕ, List, [], ◌∷◌, ◌++◌, map, None, Ok, Err, Bool, true, false}
use Rattle.channel_face.specs.Faces.{Own, is_spent_begin, is_spent_put, is_spent_stage, is_spent_take}
use Rattle.channel_face.specs.Keeps.{is_spent_check, is_spent_prune}
use Rattle.channel_face.specs.Machine.{State, Call, BeginPut, BeginTake, Put, Take, StagePut, StageTake, Flush, Checkpoint, Prune, RollbackPut, RollbackTake, puts_of, takes_of}
use Rattle.channel_face.specs.declared.replies.FaceRefused.TheVariants as Face
use Rattle.channel_face.specs.declared.replies.FlushRefused.{FlushRefused}
use Rattle.channel_face.specs.declared.replies.TakeRefused.TheVariants as TakeNo
use Rattle.channel_lock.specs.Views.{View}
use Rattle.shared_channel.specs.Ports.{WentBy}
use Rattle.load_gen.specs.declared.refused.LoadRefused.{LoadRefused}
use Rattle.load_gen.specs.declared.refused.LoadRefused.TheVariants as Load

-- the calls, without the states and the moments
abbrev pub calls_of : List Own → List Call
calls_of own = map (λ o. o.call) own

-- From a view to one that has seen as much or more, a pass made calls of which P is true, all under this number.
abbrev pub Makes : ℕ → View → View → (List Call → Type 0) → Type 0
Makes number v w P = WentBy number v w (λ earlier own. P (calls_of own))

-- This call was made, and is counted unless it is spent: then so many calls had been counted that no further one is.
abbrev pub IsCalled : ℕ → Bool → Call → List Call → Type 0
IsCalled seen false call calls = calls ≡ call ∷ []
IsCalled seen true call calls = (calls ≡ []) × (2 ^ 64 - 1026 ≤ seen)

-- In place of this call, which is answered Ok, it was refused with this cause, when so many calls had been counted and the state was this. A
-- rollback is not refused: where its token is stale it changes nothing, and is not counted.
abbrev pub IsRefused : ℕ → State → Call → LoadRefused → List Call → Type 0
IsRefused seen s (BeginPut (Ok token)) (Load.Face (Face.Begin cause)) calls = IsCalled seen (is_spent_begin (Err cause)) (BeginPut (Err cause)) calls
IsRefused seen s (BeginTake (Ok token)) (Load.Face (Face.Begin cause)) calls = IsCalled seen (is_spent_begin (Err cause)) (BeginTake (Err cause)) calls
IsRefused seen s (Put token event (Ok done)) (Load.Face (Face.Put cause)) calls = IsCalled seen (is_spent_put (Err cause)) (Put token event (Err cause)) calls
IsRefused seen s (Take token (Ok taken)) (Load.Face (Face.Take cause)) calls = IsCalled seen (is_spent_take (Err cause)) (Take token (Err cause)) calls
IsRefused seen s (StagePut token (Ok ticket)) (Load.Face (Face.Stage cause)) calls = IsCalled seen (is_spent_stage (Err cause)) (StagePut token (Err cause)) calls
IsRefused seen s (StageTake token (Ok ticket)) (Load.Face (Face.Stage cause)) calls = IsCalled seen (is_spent_stage (Err cause)) (StageTake token (Err cause)) calls
IsRefused seen s (Flush (Ok done)) (Load.Face Face.InDoubt) calls = (cause : FlushRefused) × (calls ≡ Flush (Err cause) ∷ [])
IsRefused seen s (RollbackTake token true) (Load.Face (Face.Take TakeNo.Stale)) calls = (calls ≡ []) × (takes_of s token ≡ None)
IsRefused seen s (Checkpoint (Ok done)) (Load.Check cause) calls = IsCalled seen (is_spent_check (Err cause)) (Checkpoint (Err cause)) calls
IsRefused seen s (Prune (Ok count)) (Load.Prune cause) calls = IsCalled seen (is_spent_prune (Err cause)) (Prune (Err cause)) calls
IsRefused seen s call cause calls = ⊥

-- this rollback was made, unless its token was stale
abbrev pub IsBack : Call → Type 0 → List Call → Type 0
IsBack rollback IsStale calls = (calls ≡ rollback ∷ []) ⊎ ((calls ≡ []) × IsStale)

-- After this call the transaction that it is of was rolled back, where it leaves one open; the state is the last that was seen.
abbrev pub RollsBack : Call → State → List Call → Type 0
RollsBack (Put token event reply) s calls = IsBack (RollbackPut token true) (puts_of s token ≡ None) calls
RollsBack (StagePut token reply) s calls = IsBack (RollbackPut token true) (puts_of s token ≡ None) calls
RollsBack (Take token reply) s calls = IsBack (RollbackTake token true) (takes_of s token ≡ None) calls
RollsBack (StageTake token reply) s calls = IsBack (RollbackTake token true) (takes_of s token ≡ None) calls
RollsBack call s calls = calls ≡ []

-- calls with which some begin of which P is true
abbrev pub Begins : (List Call → Type 0) → List Call → Type 0
Begins P calls = (rest : List Call) × P (calls ++ rest)

-- The first calls of some of which P is true, and the next of them was refused with this cause; then its transaction, if it has one, was rolled back.
pub record IsCutOff (P : List Call → Type 0) (seen : ℕ) (s : State) (cause : LoadRefused) (calls : List Call) : Type 0 where
  pub front : List Call
  pub next : Call
  pub refused : List Call
  pub back : List Call
  pub goes : Begins P (front ++ next ∷ [])
  pub refuses : IsRefused seen s next cause refused
  pub rolls : RollsBack next s back
  pub whole : calls ≡ front ++ (refused ++ back)

-- The first calls of some of which P is true, and the next of them was not made; its transaction was rolled back.
pub record IsStopped (P : List Call → Type 0) (s : State) (calls : List Call) : Type 0 where
  pub front : List Call
  pub next : Call
  pub back : List Call
  pub goes : Begins P (front ++ next ∷ [])
  pub rolls : RollsBack next s back
  pub whole : calls ≡ front ++ back
