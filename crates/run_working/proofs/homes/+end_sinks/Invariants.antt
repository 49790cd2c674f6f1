use Rattle.std.proofs.Common.{length}
use Rattle.run_working.proofs.homes.+end_sinks.Given as goal

abbrev pub decreases-end_sinks : goal.decreases-end_sinks
decreases-end_sinks g l = length l.workers.items
