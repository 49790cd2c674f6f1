use Rattle.std.proofs.Common.{length}
use Rattle.run_working.proofs.homes.+end_keepers.Given as goal

abbrev pub decreases-end_keepers : goal.decreases-end_keepers
decreases-end_keepers g l = length l.workers.items
