use Rattle.std.proofs.Common.{length}
use Rattle.run_tracks.proofs.open.+open_ports.Given as goal

abbrev pub decreases-open_ports : goal.decreases-open_ports
decreases-open_ports g l = length l.passes.items
