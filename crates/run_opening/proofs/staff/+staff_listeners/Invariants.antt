use Rattle.std.proofs.Common.{length}
use Rattle.run_opening.proofs.staff.+staff_listeners.Given as goal

abbrev pub decreases-staff_listeners : goal.decreases-staff_listeners
decreases-staff_listeners g l = length l.seats.items
