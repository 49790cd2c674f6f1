use Rattle.file_channel.proofs.Removing.{may_remove}
use Rattle.file_channel.proofs.opening.remove_unbegun.Goals as goal

pub returns-in-Ok-Some-Log-clause-removes : goal.returns-in-Ok-Some-Log-clause-removes
returns-in-Ok-Some-Log-clause-removes g c =
    may_remove c.args.number (g.D.Disk.told c.args.disk.now) (g.D.Disk.told c.next_name.new.self) (g.D.Disk.told c.remove.new.self) c.remove.result c.in-Ok-Some-Log.ensures.same c.remove.ensures.done
