use Rattle.std.proofs.Common.{length}
use Rattle.run_working.proofs.ports.+open_sinks.Given as goal

abbrev pub decreases-open_sinks : goal.decreases-open_sinks
decreases-open_sinks g l = length l.jobs.items
