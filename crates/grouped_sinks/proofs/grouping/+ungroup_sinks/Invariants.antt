use Rattle.std.proofs.Common.{length}
use Rattle.grouped_sinks.proofs.grouping.+ungroup_sinks.Given as goal

-- proposed from what the function passes where it calls itself
abbrev pub decreases-ungroup_sinks : goal.decreases-ungroup_sinks
decreases-ungroup_sinks g l = length l.rows.now
