use Rattle.std.proofs.Common.{length}
use Rattle.run_opening.proofs.staff.+staff_lines.Given as goal

abbrev pub decreases-staff_lines : goal.decreases-staff_lines
decreases-staff_lines g l = length l.seats.items
