use Rattle.file_channel.specs.Stands.{opened_as}
use Rattle.shared_tests.proofs.sharing.on_disk_by.Given as goal

abbrev pub ghost-share_opened : goal.ghost-share_opened
ghost-share_opened g a = opened_as (g.D.Disk.told a.before.value) (g.D.Disk.faults a.before.value) (g.D.Disk.told a.channel.0) a.channel.1
