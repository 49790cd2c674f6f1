use Rattle.std.proofs.Common.{length}
use Rattle.run_opening.proofs.streams.+keep_talks.Given as goal

abbrev pub decreases-keep_talks : goal.decreases-keep_talks
decreases-keep_talks g l = length l.lines.items
