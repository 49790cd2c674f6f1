use Rattle.std.proofs.Common.{length}
use Rattle.grouped_sinks.proofs.grouping.+put_sinks.Given as goal

-- proposed from what the function passes where it calls itself
abbrev pub decreases-put_sinks : goal.decreases-put_sinks
decreases-put_sinks g l = length l.places.now
