use Rattle.file_channel.proofs.Removing.{unbegun}
use Rattle.file_channel.proofs.opening.begin_log.Goals as goal

pub returns-in-Err-DiskFault-clause-any_moment : goal.returns-in-Err-DiskFault-clause-any_moment
returns-in-Err-DiskFault-clause-any_moment g c =
    unbegun c.args.number (g.D.Disk.told c.args.disk.now) (g.D.Disk.told c.begin.new.disk) (g.D.Disk.told c.remove_unbegun.new.disk) (λ u is. g.met.D.Disk.reads_are_left c.begin.new.disk u is) c.in-Err-DiskFault.ensures.any_moment c.remove_unbegun.ensures.removes
