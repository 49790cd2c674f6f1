-- The history of a channel in which nothing failed.
use Rattle.std.specs.Prelude.{◌≡◌, ◌⊎◌, ◌≤◌, ◌++◌, ℕ, List, [], ◌∷◌, Ok, Bool, true, false}
use mathlib.Core.List.{IsPrefix}
use Rattle.channel_face.specs.History.{Opening, Step, IsRun, opening, state_after}
use Rattle.channel_face.specs.Machine.{State, Call, BeginPut, Put, StagePut, RollbackPut, Reopen}
use Rattle.channel_face.specs.Token.{Token}

-- in these calls the pass with this number began the transaction of this token, to put
abbrev pub Began : ℕ → Token → List Step → Type 0
Began pass token [] = ⊥
Began pass token (step ∷ h) = ((step.pass ≡ pass) × (step.call ≡ BeginPut (Ok token))) ⊎ Began pass token h

-- Of the call that a pass makes in this state after these calls: where it puts, stages or rolls back puts, it does so in a transaction that
-- the same pass began. Where it reopens the channel, that is broken.
abbrev pub IsFair : State → List Step → ℕ → Call → Type 0
IsFair s before pass (Put token event reply) = Began pass token before
IsFair s before pass (StagePut token reply) = Began pass token before
IsFair s before pass (RollbackPut token ended) = Began pass token before
IsFair s before pass (Reopen reply) = s.broken ≡ true
IsFair s before pass call = Unit {0}

-- each call since the opening is so
abbrev pub AreFair : Opening → List Step → Type 0
AreFair start whole =
    (front : List Step) (step : Step) → IsPrefix (front ++ step ∷ []) whole → IsFair (state_after (opening start) front) front step.pass step.call

-- the calls led to no state in which the channel was broken
abbrev pub IsNeverBroken : Opening → List Step → Type 0
IsNeverBroken start whole = (front : List Step) → IsPrefix front whole → (state_after (opening start) front).broken ≡ false

-- All calls of a channel since its opening, where nothing failed: each was answered as the machine answers it, and was fair to the other
-- passes, and the channel was never broken. Its transactions may have a put.
pub record IsUndisturbed (start : Opening) (whole : List Step) : Type 0 where
  pub tells : Bool
  pub run : IsRun tells (opening start) whole
  pub fair : AreFair start whole
  pub unbroken : IsNeverBroken start whole
  pub some : 1 ≤ start.rules.limits.txn_capacity
