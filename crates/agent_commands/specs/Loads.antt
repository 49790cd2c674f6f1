-- What a run of `load` has done.
use Rattle.std.specs.Prelude.{◌≡◌, ◌⊎◌, ◌≤◌, ◌<◌, ◌+◌, ◌-◌, ◌^◌, min, ℕ, List, [], length, map, Option, Some, None, Result, Ok, Err, String, string_bytes, false}
use Rattle.std.specs.Global.{Global}
use Rattle.std.specs.Io.KnownBytes.{Appends}
use Rattle.flume_host.specs.Causes.{Rose}
use Rattle.flume_host.specs.HostState.{HostState}
use Rattle.flume_host.specs.Told.{Tells, Told}
use Rattle.channel_face.specs.History.{IsRun, Opening, Step, opening}
use Rattle.channel_face.specs.Machine.{Call}
use Rattle.channel_face.specs.declared.replies.BeginRefused.TheVariants as BeginNo
use Rattle.channel_face.specs.declared.replies.CheckRefused.{CheckRefused}
use Rattle.channel_face.specs.declared.replies.CheckRefused.TheVariants as CheckNo
use Rattle.channel_face.specs.declared.replies.FaceRefused.{FaceRefused}
use Rattle.channel_face.specs.declared.replies.FaceRefused.TheVariants as face
use Rattle.channel_face.specs.declared.replies.OpenCause.{OpenCause}
use Rattle.channel_face.specs.declared.replies.OpenCause.TheVariants as causes
use Rattle.channel_face.specs.declared.replies.PruneRefused.{PruneRefused}
use Rattle.channel_face.specs.declared.replies.PruneRefused.TheVariants as PruneNo
use Rattle.channel_face.specs.declared.replies.PutRefused.TheVariants as PutNo
use Rattle.channel_face.specs.declared.replies.StageCause.TheVariants as StageNo
use Rattle.channel_face.specs.declared.replies.TakeRefused.TheVariants as TakeNo
use Rattle.channel_writing.specs.Touches.{Rests}
use Rattle.channel_laws.specs.Images.{LeavesAtEach}
use Rattle.load_gen.specs.Runs.{Generates}
use Rattle.load_gen.specs.declared.refused.LoadRefused.{LoadRefused}
use Rattle.load_gen.specs.declared.refused.LoadRefused.TheVariants as load
use Rattle.shared_channel.specs.Calls.{state_seen}
use Rattle.shared_channel.specs.Passes.{Known}
use Rattle.shared_channel.specs.Ports.{AreUnder}
use Rattle.flume_host.specs.Writes.{Fronts}
use Rattle.agent_words.specs.Statuses.{cause_status}
use Rattle.agent_commands.specs.Puts.{BeginsOver}
use Rattle.agent_commands.specs.Stored.{IsOfFolder, IsRefusedFolder, IsUnopened, default_limits}
use Rattle.agent_commands.specs.declared.load.LoadCause.{LoadCause}
use Rattle.agent_commands.specs.declared.load.LoadCause.TheVariants.{Unopened, TooMany, Refused}

-- the calls of a history, without who made them and when
abbrev pub calls_in : List Step → List Call
calls_in h = map (λ step. step.call) h

-- The channel of a folder that told this before began so. Whatever a crash left of the folder at a moment since it was settled opens to what the
-- calls up to that moment may leave; and whatever it leaves in the end to just what is settled, unless the channel is broken.
pub record IsKept (before after : Option Told) (pass : Known) : Type 0 where
  pub begins : BeginsOver before pass.view.base
  pub images : LeavesAtEach after pass.view.base pass.view.seen
  pub rests : Rests after (state_seen pass.view)

-- The generator of n events was answered so on the channel of a folder that had room for them. The pass has seen the whole history of the channel: all
-- its calls are the generator's, and each was answered as the machine answers it.
pub record Loads (n : ℕ) (before after : Option Told) (pass : Known) (answer : Result (String Global) LoadRefused) : Type 0 where
  pub kept : IsKept before after pass
  pub room : length pass.view.base.base.items + n ≤ default_limits.capacity
  pub run : IsRun pass.view.base.tells (opening pass.view.base) pass.view.seen
  pub under : AreUnder 0 pass.view.seen
  pub calls : Generates n (length pass.view.seen) (state_seen pass.view) answer (calls_in pass.view.seen)
  -- a run that was whole leaves nothing staged, and the channel is not broken
  pub ends : (text : String Global) → answer ≡ Ok text → ((state_seen pass.view).staged ≡ []) × ((state_seen pass.view).broken ≡ false)

-- a channel that was opened, and closed before any call
abbrev pub IsClosedAtOnce : Option Told → Option Told → (Opening → Type 0) → Type 0
IsClosedAtOnce before after P =
    (start : Opening) × BeginsOver before start × LeavesAtEach after start [] × Rests after (opening start) × P start

-- a folder that was not opened; one that is the cause itself stays as it was
pub record IsLeftClosed (before after : Option Told) (cause : OpenCause) : Type 0 where
  pub unopened : Tells before after IsUnopened
  pub refused : IsOfFolder cause → Tells before after IsRefusedFolder

-- What became of the folder, and of its channel's pass, by what `load` came to there.
abbrev pub RanOn : ℕ → Option Told → Option Told → Option Known → Result (String Global) LoadCause → Type 0
RanOn n before after pass (Ok text) = (known : Known) × (pass ≡ Some known) × Loads n before after known (Ok text)
RanOn n before after pass (Err (Refused why)) = (known : Known) × (pass ≡ Some known) × Loads n before after known (Err why)
RanOn n before after pass (Err (TooMany count)) =
    (pass ≡ None) × IsClosedAtOnce before after (λ start. (default_limits.capacity < length start.base.items + n) × (count ≡ min (length start.base.items + n) (2 ^ 64 - 1)))
RanOn n before after pass (Err (Unopened cause)) =
    (pass ≡ None) × (IsLeftClosed before after cause ⊎ ((cause ≡ causes.NoMemory) × IsClosedAtOnce before after (λ start. Unit {0})))

-- the status of a run whose generator was refused so in a transaction
abbrev pub face_status : FaceRefused → ℕ
face_status (face.Begin (BeginNo.Spent counter)) = 4
face_status (face.Begin BeginNo.NoMemory) = 5
face_status (face.Put (PutNo.Spent counter)) = 4
face_status (face.Put PutNo.NoMemory) = 5
face_status (face.Take (TakeNo.Spent counter)) = 4
face_status (face.Take (TakeNo.Damaged kept found)) = 4
face_status (face.Take TakeNo.NoMemory) = 5
face_status (face.Stage (StageNo.Spent counter)) = 4
face_status why = 3

-- at a checkpoint
abbrev pub check_status : CheckRefused → ℕ
check_status (CheckNo.Spent counter) = 4
check_status why = 3

-- at a removal of old files
abbrev pub prune_status : PruneRefused → ℕ
prune_status (PruneNo.Spent counter) = 4
prune_status why = 3

-- the status of a run whose generator was refused so
abbrev pub refused_status : LoadRefused → ℕ
refused_status (load.Face why) = face_status why
refused_status (load.Check why) = check_status why
refused_status (load.Prune why) = prune_status why
refused_status load.NoMemory = 5

-- the status of a run that has no summary for this cause
abbrev pub unloaded_status : LoadCause → ℕ
unloaded_status (Unopened cause) = cause_status cause
unloaded_status (TooMany count) = 4
unloaded_status (Refused why) = refused_status why

-- the status of a run that came to this, where its summary could be written
abbrev pub load_status : Result (String Global) LoadCause → ℕ
load_status (Ok text) = 0
load_status (Err cause) = unloaded_status cause

-- what the generator answered, as what the run came to
abbrev pub as_cause : Result (String Global) LoadRefused → Result (String Global) LoadCause
as_cause (Ok text) = Ok text
as_cause (Err why) = Err (Refused why)

-- The folder's part of a run, from one state of the host and of the folder to the next: a count of faults rose where the status is 3, and none at 0
-- and 4; all else is as before.
pub record Ran (n : ℕ) (old new : HostState) (before after : Option Told) (pass : Option Known) (answer : Result (String Global) LoadCause) : Type 0 where
  pub folder : RanOn n before after pass answer
  pub fault : load_status answer ≡ 3 → Rose old.faults new.faults ⊎ Rose old.disk_faults new.disk_faults
  pub host : (load_status answer ≡ 0) ⊎ (load_status answer ≡ 4) → new.faults ≡ old.faults
  pub disks : (load_status answer ≡ 3 → ⊥) → new.disk_faults ≡ old.disk_faults
  pub later : (old.faults ≤ new.faults) × (old.disk_faults ≤ new.disk_faults)
  pub state : new ≡ record old { faults = new.faults; disk_faults = new.disk_faults }

-- What was written of it: the whole summary, or a front of it where the output failed; nothing without a summary.
abbrev pub Wrote : Result (String Global) LoadCause → ℕ → HostState → HostState → Type 0
Wrote (Ok text) status old new =
    ((status ≡ 0) × Appends old.output new.output (string_bytes text) × (new.handed ≡ new.output))
    ⊎ ((status ≡ 3) × Fronts old.output new.output old.faults new.faults (string_bytes text))
Wrote (Err cause) status old new = (status ≡ unloaded_status cause) × (new.output ≡ old.output)

-- From one state of the host and of the folder to the next, by the exit status. At 0 the whole run was made, and its whole summary written. At 3 a
-- count of faults rose; at 0 and 4 none did, and at 5 that of the disk did not.
pub record Loaded (n : ℕ) (old new : HostState) (before after : Option Told) (status : ℕ) (pass : Option Known) : Type 0 where
  pub answer : Result (String Global) LoadCause
  pub folder : RanOn n before after pass answer
  pub wrote : Wrote answer status old new
  pub fault : status ≡ 3 → Rose old.faults new.faults ⊎ Rose old.disk_faults new.disk_faults
  pub well : (status ≡ 0) ⊎ (status ≡ 4) → (new.faults ≡ old.faults) × (new.disk_faults ≡ old.disk_faults)
  pub memory : status ≡ 5 → new.disk_faults ≡ old.disk_faults
  pub input : new.input ≡ old.input
  pub files : new.files ≡ old.files

-- the statuses of `load`
abbrev pub IsLoadStatus : ℕ → Type 0
IsLoadStatus n = (n ≡ 0) ⊎ (n ≡ 3) ⊎ (n ≡ 4) ⊎ (n ≡ 5)
