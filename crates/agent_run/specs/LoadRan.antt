-- What a run of `load` did, and the channel that comes back.
use Rattle.std.specs.Prelude.{ℕ, List, Option}
use Rattle.shared_channel.specs.Passes.{Known}
use Rattle.channel_wishes.specs.Openings.{HostTold}
use Rattle.agent_commands.specs.Loads.{Loaded}
use Rattle.agent_run.specs.PipeRan.{IsChannelOf}
use Rattle.run_opening.specs.declared.channel_end.ChannelEnd.{ChannelEnd}

-- `load` of n events on the folder of this name ended with this status and these channels.
pub record LoadRan (n : ℕ) (dir : List ℕ) (status : ℕ) (channels : List ChannelEnd) (old new : HostTold) : Type 0 where
  pub pass : Option Known
  pub channel : IsChannelOf dir pass channels
  pub loaded : Loaded n old.state new.state (old.folders.disks dir) (new.folders.disks dir) status pass
