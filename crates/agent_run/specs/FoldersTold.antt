-- What the folders of a run's channels hold after it.
use Rattle.std.specs.Prelude.{◌≡◌, ◌<◌, ◌++◌, ℕ, List, [], ◌∷◌, Option, Some, None, Bool, true, false, Result, length, slice_index_or, string_bytes}
use Rattle.agent_plan.specs.declared.plan.ChannelKind.{ChannelKind}
use Rattle.agent_plan.specs.declared.plan.ChannelKind.TheVariants.{File, Memory}
use Rattle.agent_plan.specs.declared.plan.ChannelPlan.{ChannelPlan}
use Rattle.flume_host.specs.HostState.{Folders}
use Rattle.flume_host.specs.Told.{Told}
use Rattle.channel_face.specs.History.{IsRun, Step, opening}
use Rattle.channel_face.specs.Machine.{Checkpoint, Prune, Reopen, Reopened, is_some_of}
use Rattle.channel_face.specs.declared.replies.CheckRefused.{CheckRefused}
use Rattle.channel_face.specs.declared.replies.Limits.{Limits}
use Rattle.channel_face.specs.declared.replies.OpenCause.{OpenCause}
use Rattle.channel_face.specs.declared.replies.PruneRefused.{PruneRefused}
use Rattle.channel_laws.specs.Images.{LeavesAtEach}
use Rattle.channel_writing.specs.Touches.{Rests}
use Rattle.shared_channel.specs.Calls.{state_seen}
use Rattle.shared_channel.specs.Passes.{Known}
use Rattle.channel_wishes.specs.Openings.{BeginsOnDisk}
use Rattle.run_opening.specs.Keepers.{closes}
use Rattle.agent_run.specs.RolledTold.{CountsMore}

-- the folder of a channel, if it is in one
abbrev pub folder_of : ChannelKind → Option (List ℕ)
folder_of Memory = None
folder_of (File folder max_file interval on_close) = Some (string_bytes folder)

-- the length from which on a file is followed by another; 0 for a channel in memory
abbrev pub file_of : ChannelKind → ℕ
file_of Memory = 0
file_of (File folder max_file interval on_close) = max_file

-- what a channel of a plan is limited to
abbrev pub limits_of : ChannelPlan → Limits
limits_of plan = record { capacity = plan.capacity; txn_capacity = plan.txn_capacity; max_file = file_of plan.kind }

-- what a mend calls: nothing, or a reopening alone
abbrev pub MendCalls : List Step → Type 0
MendCalls [] = Unit {0}
MendCalls (step ∷ []) = (reply : Result Reopened OpenCause) × (step.call ≡ Reopen reply)
MendCalls steps = ⊥

-- The last calls are a checkpoint and a removal of old files, whatever these were answered, and then those of a mend.
pub record EndsKept (calls : List Step) : Type 0 where
  pub front : List Step
  pub check : Step
  pub prune : Step
  pub mend : List Step
  pub whole : calls ≡ front ++ check ∷ prune ∷ mend
  pub checked : (reply : Result (Unit {0}) CheckRefused) × (check.call ≡ Checkpoint reply)
  pub pruned : (reply : Result ℕ PruneRefused) × (prune.call ≡ Prune reply)
  pub mends : MendCalls mend

-- Of a folder the host told this before a run and that after it, by the pass that has seen all calls of the folder's channel. The
-- channel began with what the folder opened to, and its calls were answered as the machine answers them. Whatever a crash left of the
-- folder at a moment since then opens to something that the calls up to that moment may leave.
pub record FolderRan (limits : Limits) (before after : Option Told) (final : Known) : Type 0 where
  pub begins : BeginsOnDisk limits before final.view.base
  pub tells : is_some_of after ≡ is_some_of before
  pub run : IsRun (is_some_of after) (opening final.view.base) final.view.seen
  pub images : LeavesAtEach after final.view.base final.view.seen

-- So it is of the folder of each channel of the plan, however the run ended.
abbrev pub FoldersRan : List ChannelPlan → Folders → Folders → List Known → Type 0
FoldersRan plans before after finals =
    (place : ℕ) (plan : ChannelPlan) (final : Known) (path : List ℕ) → place < length plans → folder_of (slice_index_or plans place plan).kind ≡ Some path
    → FolderRan (limits_of (slice_index_or plans place plan)) (before.disks path) (after.disks path) (slice_index_or finals place final)

-- In the end the channel was not broken, and whatever a crash now leaves of its folder opens to just what is settled. Where the plan says
-- so, its calls end with a checkpoint and a removal of old files, as long as they are counted.
pub record FolderTold (closes : Bool) (after : Option Told) (final : Known) : Type 0 where
  pub whole : (state_seen final.view).broken ≡ false
  pub rests : Rests after (state_seen final.view)
  pub kept : closes ≡ true → CountsMore (length final.view.seen) → EndsKept final.view.seen

-- So it is of the folder of each channel of the plan where the run ended well.
abbrev pub FoldersTold : List ChannelPlan → Folders → List Known → Type 0
FoldersTold plans after finals =
    (place : ℕ) (plan : ChannelPlan) (final : Known) (path : List ℕ) → place < length plans → folder_of (slice_index_or plans place plan).kind ≡ Some path
    → FolderTold (closes (slice_index_or plans place plan).kind) (after.disks path) (slice_index_or finals place final)

-- no two channels of a plan are in one folder
abbrev pub FoldersAreApart : List ChannelPlan → Type 0
FoldersAreApart plans =
    (i j : ℕ) (plan : ChannelPlan) (path : List ℕ) → i < j → j < length plans → folder_of (slice_index_or plans i plan).kind ≡ Some path
    → folder_of (slice_index_or plans j plan).kind ≡ Some path → ⊥
