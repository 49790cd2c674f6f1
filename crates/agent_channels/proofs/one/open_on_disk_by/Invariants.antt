use Rattle.file_channel.specs.Stands.{opened_as}
use Rattle.agent_channels.proofs.one.open_on_disk_by.Given as goal

abbrev pub ghost-share_on_disk : goal.ghost-share_on_disk
ghost-share_on_disk g a = opened_as (g.D.Disk.told a.before.value) (g.D.Disk.faults a.before.value) (g.D.Disk.told a.channel.0) a.channel.1
