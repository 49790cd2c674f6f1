use Rattle.std.proofs.Common.{length}
use Rattle.grouped_sinks.proofs.grouping.+group_sinks.Given as goal

-- proposed from what the function passes where it calls itself
abbrev pub decreases-group_sinks : goal.decreases-group_sinks
decreases-group_sinks g l = length l.rows.now
