use Rattle.std.proofs.Common.{length}
use Rattle.run_opening.proofs.seats.+keep_seats_of.Given as goal

abbrev pub decreases-keep_seats_of : goal.decreases-keep_seats_of
decreases-keep_seats_of g l = length l.plans.now
