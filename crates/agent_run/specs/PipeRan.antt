-- What a run of `pipe` did, and the channel that comes back.
use Rattle.std.specs.Prelude.{◌≡◌, ℕ, List, [], ◌∷◌, Option, Some, None, string_bytes}
use Rattle.shared_channel.specs.Passes.{Known}
use Rattle.channel_wishes.specs.Openings.{HostTold}
use Rattle.agent_commands.specs.Piped.{Piped}
use Rattle.run_opening.specs.declared.channel_end.ChannelEnd.{ChannelEnd}

-- the folder's channel with this pass, where there is one, and no worker
abbrev pub IsChannelOf : List ℕ → Option Known → List ChannelEnd → Type 0
IsChannelOf dir None channels = channels ≡ []
IsChannelOf dir (Some pass) channels =
    (end : ChannelEnd) × (channels ≡ end ∷ []) × (string_bytes end.name ≡ dir) × (end.pass ≡ pass) × (end.workers.items ≡ [])

-- `pipe` on the folder of this name ended with this status and these channels.
pub record PipeRan (dir : List ℕ) (status : ℕ) (channels : List ChannelEnd) (old new : HostTold) : Type 0 where
  pub pass : Option Known
  pub channel : IsChannelOf dir pass channels
  pub piped : Piped old.state new.state (old.folders.disks dir) (new.folders.disks dir) old.state.disk_faults new.state.disk_faults status pass
