-- What a channel that is shared stands for.
use Rattle.std.specs.Prelude.{◌≡◌, ◌≤◌, ◌+◌, ◌-◌, ◌^◌, List, [], ◌∷◌, length, Bool, true}
use Rattle.channel_face.specs.Machine.{Call, RollbackPut, RollbackTake}
use Rattle.channel_face.specs.History.{Opening, Step, opening, state_after, journal}
use Rattle.channel_face.specs.Counters.{counts_of}
use Rattle.channel_lock.specs.Calls.{keep}

-- A rollback of a stale token changes nothing, and is not counted.
abbrev pub is_counted : Call → Bool
is_counted (RollbackPut token ended) = ended
is_counted (RollbackTake token ended) = ended
is_counted call = true

abbrev pub counted_calls : List Step → List Step
counted_calls [] = []
counted_calls (step ∷ h) = keep (is_counted step.call) step (counted_calls h)

-- The channel stands for calls of which these are the counted ones.
abbrev pub StandsCounting : {C : Type 0} → (C → Opening → List Step → Type 0) → C → Opening → List Step → Type 0
StandsCounting stands c start h = (all : List Step) × stands c start all × (counted_calls all ≡ h)

-- Both lead to one state, with the same counts, and with the same entries settled or kept.
pub record Agree (start : Opening) (all h : List Step) : Type 0 where
  pub state : state_after (opening start) all ≡ state_after (opening start) h
  pub counts : counts_of start all ≡ counts_of start h
  pub journal : journal (opening start) all ≡ journal (opening start) h

-- The channel stands for calls of which these are the counted ones, and the others told and changed nothing.
abbrev pub StandsAgreeing : {C : Type 0} → (C → Opening → List Step → Type 0) → C → Opening → List Step → Type 0
StandsAgreeing stands c start h = (all : List Step) × stands c start all × (counted_calls all ≡ h) × Agree start all h

-- So many calls leave room for a rollback of each open transaction.
pub record HasRoom (start : Opening) (h : List Step) : Type 0 where
  pub few : length (state_after (opening start) h).opened ≤ 1024
  pub room : length h + length (state_after (opening start) h).opened ≤ 2 ^ 64 - 1

-- What is kept of a channel while nobody holds the lock.
pub record Keeps {C : Type 0} (stands : C → Opening → List Step → Type 0) (c : C) (start : Opening) (h : List Step) : Type 0 where
  pub calls : StandsCounting stands c start h
  pub room : HasRoom start h
