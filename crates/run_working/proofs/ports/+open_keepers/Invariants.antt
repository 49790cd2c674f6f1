use Rattle.std.proofs.Common.{length}
use Rattle.run_working.proofs.ports.+open_keepers.Given as goal

abbrev pub decreases-open_keepers : goal.decreases-open_keepers
decreases-open_keepers g l = length l.jobs.items
