use Rattle.std.proofs.Common.{length}
use Rattle.grouped_sinks.proofs.grouping.+take_sinks.Given as goal

-- proposed from what the function passes where it calls itself
abbrev pub decreases-take_sinks : goal.decreases-take_sinks
decreases-take_sinks g l = length l.places.now
