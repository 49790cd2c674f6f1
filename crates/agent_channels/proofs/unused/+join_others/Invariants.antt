use Rattle.std.proofs.Common.{length}
use Rattle.agent_channels.proofs.unused.+join_others.Given as goal

abbrev pub decreases-join_others : goal.decreases-join_others
decreases-join_others g l = length l.others.items
