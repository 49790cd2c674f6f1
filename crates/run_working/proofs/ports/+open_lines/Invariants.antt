use Rattle.std.proofs.Common.{length}
use Rattle.run_working.proofs.ports.+open_lines.Given as goal

abbrev pub decreases-open_lines : goal.decreases-open_lines
decreases-open_lines g l = length l.jobs.items
