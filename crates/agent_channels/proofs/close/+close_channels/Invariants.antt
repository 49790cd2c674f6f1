use Rattle.std.proofs.Common.{length}
use Rattle.agent_channels.proofs.close.+close_channels.Given as goal

abbrev pub decreases-close_channels : goal.decreases-close_channels
decreases-close_channels g l = length l.closed.items
