use Rattle.std.proofs.Common.{length}
use Rattle.run_working.proofs.homes.+end_lines.Given as goal

abbrev pub decreases-end_lines : goal.decreases-end_lines
decreases-end_lines g l = length l.workers.items
