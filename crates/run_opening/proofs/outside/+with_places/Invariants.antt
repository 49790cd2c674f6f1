use Rattle.std.proofs.Common.{length}
use Rattle.run_opening.proofs.outside.+with_places.Given as goal

abbrev pub decreases-with_places : goal.decreases-with_places
decreases-with_places g l = length l.listeners.items
