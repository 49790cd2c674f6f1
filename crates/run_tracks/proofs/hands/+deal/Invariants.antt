use Rattle.std.proofs.Common.{length}
use Rattle.run_tracks.proofs.hands.+deal.Given as goal

-- proposed from what the function passes where it calls itself
abbrev pub decreases-deal : goal.decreases-deal
decreases-deal l = length l.channels.now
