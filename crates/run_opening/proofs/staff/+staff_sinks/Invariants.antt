use Rattle.std.proofs.Common.{length}
use Rattle.run_opening.proofs.staff.+staff_sinks.Given as goal

-- proposed from what the function passes where it calls itself
abbrev pub decreases-staff_sinks : goal.decreases-staff_sinks
decreases-staff_sinks g l = length l.plans.now
