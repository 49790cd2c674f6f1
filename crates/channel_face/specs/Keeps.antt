-- What those who keep a channel call it with, in the words of Faces: a mend, a checkpoint, a removal of old files, and a look.
use Rattle.std.specs.Prelude.{◌≡◌, ℕ, List, [], Bool, true, false, Result, Ok, Err}
use Rattle.channel_face.specs.Faces.{Own, IsMade, IsFound}
use Rattle.channel_face.specs.History.{reopen_reply}
use Rattle.channel_face.specs.Machine.{State, Checkpoint, Prune, Reopen, Reopened}
use Rattle.channel_face.specs.declared.replies.Counter.TheVariants.{Calls}
use Rattle.channel_face.specs.declared.replies.CheckRefused.{CheckRefused}
use Rattle.channel_face.specs.declared.replies.CheckRefused.TheVariants as CheckNo
use Rattle.channel_face.specs.declared.replies.PruneRefused.{PruneRefused}
use Rattle.channel_face.specs.declared.replies.PruneRefused.TheVariants as PruneNo
use Rattle.channel_face.specs.declared.replies.OpenCause.{OpenCause}
use Rattle.channel_face.specs.declared.replies.OpenCause.TheVariants as OpenNo

-- the replies of a call that was not made because no more calls are counted

abbrev pub is_spent_check : Result (Unit {0}) CheckRefused → Bool
is_spent_check (Err (CheckNo.Spent Calls)) = true
is_spent_check reply = false

abbrev pub is_spent_prune : Result ℕ PruneRefused → Bool
is_spent_prune (Err (PruneNo.Spent Calls)) = true
is_spent_prune reply = false

abbrev pub is_spent_open : Result (Unit {0}) OpenCause → Bool
is_spent_open (Err (OpenNo.Spent Calls)) = true
is_spent_open reply = false

-- what a mend answers of its reopen
abbrev pub mended : Result (Unit {0}) OpenCause → Result Bool OpenCause
mended (Ok done) = Ok true
mended (Err cause) = Err cause

-- no call was made, and the channel was left in a state of which P is true
abbrev pub IsLook : (List Own → State → Type 0) → (State → Type 0) → List Own → List Own → Type 0
IsLook saw P earlier own = (own ≡ []) × ((s : State) × saw earlier s × P s)

-- a checkpoint was asked for and answered so
abbrev pub IsCheck : ℕ → Result (Unit {0}) CheckRefused → List Own → Type 0
IsCheck seen reply own = (s : State) × IsMade seen (is_spent_check reply) (Checkpoint reply) s own

-- files that the newest checkpoint does not need were to be removed, and it was answered so
abbrev pub IsPrune : ℕ → Result ℕ PruneRefused → List Own → Type 0
IsPrune seen reply own = (s : State) × IsMade seen (is_spent_prune reply) (Prune reply) s own

-- A channel that was broken was reopened, which was answered so.
abbrev pub IsReopened : (List Own → State → Type 0) → ℕ → Result Bool OpenCause → List Own → List Own → Type 0
IsReopened saw seen result earlier own =
    (reply : Result (Unit {0}) OpenCause) × (kept : Reopened) × (s : State) × IsFound saw earlier own s × (s.broken ≡ true)
    × IsMade seen (is_spent_open reply) (Reopen (reopen_reply reply kept)) s own × (result ≡ mended reply)

-- A channel that is on a disk was reopened exactly where it was broken. One that is not on a disk never breaks, and is not called.
abbrev pub IsMend : Type 0 → (List Own → State → Type 0) → ℕ → Result Bool OpenCause → List Own → List Own → Type 0
IsMend OnDisk saw seen (Ok false) earlier own = (own ≡ []) × (OnDisk → IsLook saw (λ s. s.broken ≡ false) earlier own)
IsMend OnDisk saw seen result earlier own = OnDisk × IsReopened saw seen result earlier own
