use Rattle.std.proofs.Common.{length}
use Rattle.run_working.proofs.ports.+open_listeners.Given as goal

abbrev pub decreases-open_listeners : goal.decreases-open_listeners
decreases-open_listeners g l = length l.jobs.items
