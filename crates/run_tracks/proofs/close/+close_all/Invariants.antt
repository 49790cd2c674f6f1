use Rattle.std.proofs.Common.{length}
use Rattle.run_tracks.proofs.close.+close_all.Given as goal

abbrev pub decreases-close_all : goal.decreases-close_all
decreases-close_all g l = length l.shares.items
