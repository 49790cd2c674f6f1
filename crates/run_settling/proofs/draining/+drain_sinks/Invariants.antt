use Rattle.std.proofs.Common.{length}
use Rattle.run_settling.proofs.draining.+drain_sinks.Given as goal

abbrev pub decreases-drain_sinks : goal.decreases-drain_sinks
decreases-drain_sinks g l = length l.sinks.items
