use Rattle.std.proofs.Common.{length}
use Rattle.run_opening.proofs.seats.+seats_of.Given as goal

abbrev pub decreases-seats_of : goal.decreases-seats_of
decreases-seats_of g l = length l.drafts.items
