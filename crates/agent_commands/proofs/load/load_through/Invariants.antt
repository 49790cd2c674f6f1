use Rattle.file_channel.specs.Stands.{opened_as}
use Rattle.agent_commands.proofs.load.load_through.Given as goal

abbrev pub ghost-share : goal.ghost-share
ghost-share g a = opened_as (g.D.Disk.told a.before.now.value) (g.D.Disk.faults a.before.now.value) (g.D.Disk.told a.channel.channel.0) a.channel.channel.1
