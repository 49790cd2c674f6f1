use Rattle.std.proofs.Common.{length}
use Rattle.channel_wishes.proofs.parts.+take_apart.Given as goal

abbrev pub decreases-take_apart : goal.decreases-take_apart
decreases-take_apart g l = length l.channels.items
