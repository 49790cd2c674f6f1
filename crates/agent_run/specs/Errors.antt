-- What is said of a run that didn't end well.
use Rattle.std.specs.Prelude.{◌≡◌, ◌⊎◌, ◌<◌, ℕ, Bool, List, length, slice_index_or, Option, Some, None, Result, Err}
use Rattle.channel_face.specs.declared.replies.OpenCause.{OpenCause}
use Rattle.agent_plan.specs.declared.plan.ChannelKind.{ChannelKind}
use Rattle.agent_plan.specs.declared.plan.ChannelKind.TheVariants.{File, Memory}
use Rattle.agent_plan.specs.declared.plan.ChannelPlan.{ChannelPlan}
use Rattle.agent_end.specs.Statuses.{mend_status}
use Rattle.agent_words.specs.Statuses.{cause_status, status_of}
use Rattle.agent_words.specs.declared.error.RunError.{RunError}
use Rattle.agent_words.specs.declared.error.RunError.TheVariants.{NoMemory}

-- The error of a channel of this kind that was not opened: one in memory had none, and one in a folder has the cause's status, or
-- there was no memory for the folder's name.
abbrev pub IsCauseError : ChannelKind → OpenCause → RunError → Type 0
IsCauseError Memory cause error = error ≡ NoMemory
IsCauseError (File folder max_file interval on_close) cause error = (status_of error ≡ cause_status cause) ⊎ (error ≡ NoMemory)

-- this mend was answered so that the channel can't be opened any more
abbrev pub IsBroken : Result Bool OpenCause → Type 0
IsBroken mended = mend_status mended ≡ 4

-- the cause of that, where it is so
abbrev pub IsBrokenCause : Result Bool OpenCause → Option OpenCause → Type 0
IsBrokenCause mended None = IsBroken mended → ⊥
IsBrokenCause mended (Some cause) = (mended ≡ Err cause) × (cause_status cause ≡ 4)

-- The error is that of the first channel that can't be opened any more.
pub record IsFirstBroken (plans : List ChannelPlan) (mends : List (Result Bool OpenCause)) (error : RunError) : Type 0 where
  pub place : ℕ
  pub below : place < length plans
  pub cause : OpenCause
  pub broken : cause_status cause ≡ 4
  pub here : (d : Result Bool OpenCause) → slice_index_or mends place d ≡ Err cause
  pub first : (i : ℕ) (d : Result Bool OpenCause) → i < place → IsBroken (slice_index_or mends i d) → ⊥
  pub error_of : (d : ChannelPlan) → IsCauseError (slice_index_or plans place d).kind cause error

-- none of these channels is broken
abbrev pub IsNoneBroken : List ChannelPlan → List (Result Bool OpenCause) → Type 0
IsNoneBroken plans mends = (i : ℕ) (d : Result Bool OpenCause) → i < length plans → i < length mends → IsBroken (slice_index_or mends i d) → ⊥

abbrev pub IsBrokenError : List ChannelPlan → List (Result Bool OpenCause) → RunError → Type 0
IsBrokenError plans mends error = IsFirstBroken plans mends error ⊎ (IsNoneBroken plans mends × (error ≡ NoMemory))

-- the statuses of a run
abbrev pub IsRunStatus : ℕ → Type 0
IsRunStatus n = (n ≡ 0) ⊎ (n ≡ 3) ⊎ (n ≡ 4) ⊎ (n ≡ 5) ⊎ (n ≡ 6) ⊎ (n ≡ 7)

-- The error has the status of the run; a channel that can't be opened any more is said by its own error.
abbrev pub IsEndError : List ChannelPlan → List (Result Bool OpenCause) → ℕ → RunError → Type 0
IsEndError plans mends status error = (status_of error ≡ status) ⊎ ((status ≡ 4) × IsBrokenError plans mends error)

-- what is said of an end with this status: nothing where all went well
abbrev pub IsSaid : List ChannelPlan → List (Result Bool OpenCause) → ℕ → Option RunError → Type 0
IsSaid plans mends status None = status ≡ 0
IsSaid plans mends status (Some error) = IsEndError plans mends status error
