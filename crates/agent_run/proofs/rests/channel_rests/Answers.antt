use Rattle.std.proofs.Common.{sym, subst}
use Rattle.agent_run.specs.Run.{IsAtRest}
use Rattle.agent_run.proofs.rests.channel_rests.Goals as goal

pub returns-in-Disk : goal.returns-in-Disk
returns-in-Disk g c = subst (IsAtRest g.D.Disk.told g.D.Disk.faults) (sym c.in-Disk.is) (rw c.in-Disk.is at c.rests.ensures)
