use Rattle.std.proofs.Common.{length}
use Rattle.agent_channels.proofs.unused.+give_all_unused.Given as goal

abbrev pub decreases-give_all_unused : goal.decreases-give_all_unused
decreases-give_all_unused g l = length l.channels.now.items
