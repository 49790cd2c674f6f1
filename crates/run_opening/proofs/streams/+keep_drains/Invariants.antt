use Rattle.std.proofs.Common.{length}
use Rattle.run_opening.proofs.streams.+keep_drains.Given as goal

abbrev pub decreases-keep_drains : goal.decreases-keep_drains
decreases-keep_drains g l = length l.drains.items
