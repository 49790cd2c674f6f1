use Rattle.std.proofs.Common.{length}
use Rattle.run_working.proofs.homes.+end_listeners.Given as goal

abbrev pub decreases-end_listeners : goal.decreases-end_listeners
decreases-end_listeners g l = length l.workers.items
