use Rattle.std.proofs.Common.{length}
use Rattle.run_opening.proofs.staff.+staff_keepers.Given as goal

abbrev pub decreases-staff_keepers : goal.decreases-staff_keepers
decreases-staff_keepers g l = length l.seats.items
