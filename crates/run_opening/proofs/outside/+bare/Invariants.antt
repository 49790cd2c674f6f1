use Rattle.std.proofs.Common.{length}
use Rattle.run_opening.proofs.outside.+bare.Given as goal

abbrev pub decreases-bare : goal.decreases-bare
decreases-bare g l = length l.named.items
