-- What is staged in the channels of a run that ended well.
use Rattle.std.specs.Prelude.{◌≡◌, ◌<◌, ℕ, List, [], Some, length, slice_index_or}
use Rattle.agent_plan.specs.declared.plan.ChannelPlan.{ChannelPlan}
use Rattle.shared_channel.specs.Calls.{state_seen}
use Rattle.shared_channel.specs.Passes.{Known}
use Rattle.agent_run.specs.FoldersTold.{folder_of}
use Rattle.agent_run.specs.RolledTold.{CountsMore}

-- In the end nothing is staged in a channel that is in a folder, as long as its calls are counted.
abbrev pub StagedTold : List ChannelPlan → List Known → Type 0
StagedTold plans finals =
    (place : ℕ) (plan : ChannelPlan) (final : Known) (path : List ℕ) → place < length plans → folder_of (slice_index_or plans place plan).kind ≡ Some path
    → let all = (slice_index_or finals place final).view in CountsMore (length all.seen) → (state_seen all).staged ≡ []
